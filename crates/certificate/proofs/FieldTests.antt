-- The tests of a record's fields, one refusal each: one of every kind, and of an entry four. Assumes nothing.
use Prim.Native.Nat.{ℕ, zero, suc, ◌+◌, ◌≤◌, ◌<◌}
use mathlib.Core.List.{List}
use mathlib.Core.Bool.{Bool, true, false, cond, false≢true}
use mathlib.Core.Path.{◌≡◌, refl, sym, ap, ◌∙◌}
use mathlib.Core.Logic.{◌↔◌, ◌⊎◌, inl, inr, ⊎_elim}
use native.Mathlib.Omega.{arith}
use borrow.Author.Tests.{ltb-true, ltb-false, le-leb, eqb-true, eqb-false}
use lib.Dec.{ltb, leb, eqb}
use Rattle.certificate.specs.Layout.{signals_of, modes_of, remembers, shown_before, cells_of, cell_of, mode_of, signal_of, next_mode_of, rank_of}
use Rattle.certificate.specs.Facts.{PairBelow, EntryFacts, PassesOn, TurnsOn}
use Rattle.certificate.specs.Due.{Kind, HD, LK, TN, SG, MD, GR, AR, EN, ZZ, field_number, Marked, Whole, Above, Line, BrokenLine, Missing, MissingName, WrongOrder, OtherSignal, OtherNumber, OtherGoal}
use Rattle.certificate.specs.Due.Missing.{cell, mode, signal, next_mode}
use Rattle.certificate.specs.Due.OtherNumber.{changes, not_next}
use Rattle.certificate.specs.Laws.{ReadingNumber, up_to_nine, of_order, of_memory, of_goal}
use Rattle.certificate.proofs.KindOrder.{kind_at, number_order, placed, kind_six}

-- the fields by themselves, then the order of entries, then what they pass on, then their goal numbers
pub data Test : Type 0 where
  fields : Kind → Test
  order memory goal : Test

-- the kind of record that it tests
abbrev pub kind_of : Test → Kind
kind_of (fields k) = k
kind_of order = EN
kind_of memory = EN
kind_of goal = EN

-- its refusal
abbrev pub test_number : Test → ℕ
test_number (fields k) = field_number k
test_number order = 22
test_number memory = 23
test_number goal = 24

-- what it asks
abbrev pub Asks : List ℕ → Test → ℕ → Type 0
Asks s (fields HD) i = Line s HD i
Asks s (fields LK) i = Line s LK i
Asks s (fields TN) i = Line s TN i
Asks s (fields SG) i = Line s SG i
Asks s (fields MD) i = Line s MD i
Asks s (fields GR) i = Line s GR i
Asks s (fields AR) i = Line s AR i
Asks s (fields EN) i = EntryFacts s i
Asks s (fields ZZ) i = Line s ZZ i
Asks s order i = Above (cell_of s) (mode_of s) i
Asks s memory i = PassesOn s i
Asks s goal i = TurnsOn s i

-- the tests of the same record that come before it: those with a smaller number
abbrev pub Earlier : List ℕ → Test → ℕ → Type 0
Earlier s t i = (u : Test) → kind_of u ≡ kind_of t → test_number u < test_number t → Asks s u i

-- it fails, and nothing that is tested before it
abbrev pub Broken : List ℕ → Test → ℕ → Type 0
Broken s t i = Marked s (kind_of t) i × Whole s (kind_of t) i × Earlier s t i × (Asks s t i → ⊥)

pub test_least : (t : Test) → 2 ≤ test_number t
test_least (fields k) = (placed k).least
test_least order = omega arith
test_least memory = omega arith
test_least goal = omega arith

pub test_number_lem : (t : Test) → ReadingNumber (test_number t)
test_number_lem (fields k) = up_to_nine (placed k).most
test_number_lem order = of_order refl
test_number_lem memory = of_memory refl
test_number_lem goal = of_goal refl

-- a test is told by the kind of its record and its number
test_at : Kind → ℕ → Test
test_at k n = cond (leb n 9) (fields k) (cond (eqb n 22) order (cond (eqb n 23) memory goal))

test_at_lem : (t : Test) → test_at (kind_of t) (test_number t) ≡ t
unfolding test_at
test_at_lem (fields k) = rw (le-leb _ _ (placed k).most)
test_at_lem order = refl
test_at_lem memory = refl
test_at_lem goal = refl

same_record : (t u : Test) → kind_of t ≡ kind_of u → test_number t ≡ test_number u → t ≡ u
same_record t u same e = sym (test_at_lem t) ∙ rw (same, e) (test_at_lem u)

-- and by its number alone, unless that is 6
kind_by : ℕ → Kind
kind_by n = cond (leb n 9) (kind_at (number_order n)) EN

kind_by_lem : (t : Test) → (test_number t ≡ 6 → ⊥) → kind_by (test_number t) ≡ kind_of t
unfolding kind_by
kind_by_lem (fields k) other = rw (le-leb _ _ (placed k).most, (placed k).by_number other) (placed k).at
kind_by_lem order other = refl
kind_by_lem memory other = refl
kind_by_lem goal other = refl

pub same_test : (t u : Test) → test_number t ≡ test_number u → (test_number u ≡ 6 → ⊥) → t ≡ u
same_test t u e other = same_record t u (sym (kind_by_lem t (λ six. other (sym e ∙ six))) ∙ ap kind_by e ∙ kind_by_lem u other) e

pub number_six : (t : Test) → test_number t ≡ 6 → (t ≡ fields SG) ⊎ (t ≡ fields MD)
number_six (fields k) e = ⊎_elim (λ same. inl (ap fields same)) (λ same. inr (ap fields same)) (kind_six k e)
number_six order e = absurd (omega arith)
number_six memory e = absurd (omega arith)
number_six goal e = absurd (omega arith)

-- a number whose pair is not above that of the one before it has one before it
not_above : (f g : ℕ → ℕ) (i : ℕ) → (Above f g i → ⊥) → (h : ℕ) × (h + 1 ≡ i) × (PairBelow (f h) (g h) (f i) (g i) → ⊥)
not_above f g zero bad = absurd (bad (λ h e. absurd (omega arith)))
not_above f g (suc h) bad = (h, omega arith, λ below. bad (λ k e. let same : k ≡ h = omega arith in rw same below))

module _ (s : List ℕ) (i : ℕ) where
  -- a record as its line says passes each of its tests
  pub line_asks : (t : Test) → Line s (kind_of t) i → Asks s t i
  line_asks (fields HD) line = line
  line_asks (fields LK) line = line
  line_asks (fields TN) line = line
  line_asks (fields SG) line = line
  line_asks (fields MD) line = line
  line_asks (fields GR) line = line
  line_asks (fields AR) line = line
  line_asks (fields EN) line = line.0
  line_asks (fields ZZ) line = line
  line_asks order line = line.1
  line_asks memory line = line.2
  line_asks goal line = line.3

  -- only one test of a record is the first that fails
  pub one_broken : (t u : Test) → kind_of t ≡ kind_of u → Broken s t i → Broken s u i → t ≡ u
  one_broken t u same f g = go (ltb (test_number t) (test_number u)) refl (ltb (test_number u) (test_number t)) refl
    where
      go : (b : Bool) → ltb (test_number t) (test_number u) ≡ b → (c : Bool) → ltb (test_number u) (test_number t) ≡ c → t ≡ u
      go true p c q = absurd (f.3 (g.2 t same (ltb-true _ _ p)))
      go false p true q = absurd (g.3 (f.2 u (sym same) (ltb-true _ _ q)))
      go false p false q = same_record t u same (omega (arith, ltb-false (test_number t) (test_number u) p, ltb-false (test_number u) (test_number t) q))

  -- nothing is tested before the fields, and of an entry the names before the order, both before what it passes on, and all before its goal number
  pub none_earlier : (k : Kind) → Earlier s (fields k) i
  none_earlier k (fields j) same less = absurd (omega (arith, ap field_number same))
  none_earlier k order same less = absurd (omega (arith, (placed k).most))
  none_earlier k memory same less = absurd (omega (arith, (placed k).most))
  none_earlier k goal same less = absurd (omega (arith, (placed k).most))

  pub names_earlier : EntryFacts s i → Earlier s order i
  names_earlier facts (fields j) same less = rw same facts
  names_earlier facts order same less = absurd (omega arith)
  names_earlier facts memory same less = absurd (omega arith)
  names_earlier facts goal same less = absurd (omega arith)

  pub order_earlier : EntryFacts s i → Above (cell_of s) (mode_of s) i → Earlier s memory i
  order_earlier facts above (fields j) same less = rw same facts
  order_earlier facts above order same less = above
  order_earlier facts above memory same less = absurd (omega arith)
  order_earlier facts above goal same less = absurd (omega arith)

  pub memory_earlier : EntryFacts s i → Above (cell_of s) (mode_of s) i → PassesOn s i → Earlier s goal i
  memory_earlier facts above on (fields j) same less = rw same facts
  memory_earlier facts above on order same less = above
  memory_earlier facts above on memory same less = on
  memory_earlier facts above on goal same less = absurd (omega arith)

  -- the first test that fails, in plain terms (specs/Due.antt)
  pub broken_line : (k : Kind) → Asks s (fields k) i ↔ Line s k i → Broken s (fields k) i ↔ BrokenLine s k i
  broken_line k same = (
    (λ f. (f.0, f.1, λ line. f.3 (same.1 line))),
    (λ f. (f.0, f.1, none_earlier k, λ asked. f.2 (same.0 asked))),
  )

  missing : Marked s EN i → (EntryFacts s i → ⊥) → Missing s i
  missing mark bad = go (ltb (cell_of s i) (cells_of s)) refl (ltb (mode_of s i) (modes_of s)) refl (ltb (signal_of s i) (signals_of s)) refl (ltb (next_mode_of s i) (modes_of s)) refl
    where
      go : (a : Bool) → ltb (cell_of s i) (cells_of s) ≡ a → (b : Bool) → ltb (mode_of s i) (modes_of s) ≡ b
          → (c : Bool) → ltb (signal_of s i) (signals_of s) ≡ c → (d : Bool) → ltb (next_mode_of s i) (modes_of s) ≡ d → Missing s i
      go false p b q c r d t = cell (ltb-false _ _ p)
      go true p false q c r d t = mode (ltb-false _ _ q)
      go true p true q false r d t = signal (ltb-false _ _ r)
      go true p true q true r false t = next_mode (ltb-false _ _ t)
      go true p true q true r true t =
          absurd (bad (record { mark = mark; cell = ltb-true _ _ p; mode = ltb-true _ _ q; signal = ltb-true _ _ r; next_mode = ltb-true _ _ t }))

  not_missing : Missing s i → EntryFacts s i → ⊥
  not_missing (cell h) facts = omega (arith, facts.cell)
  not_missing (mode h) facts = omega (arith, facts.mode)
  not_missing (signal h) facts = omega (arith, facts.signal)
  not_missing (next_mode h) facts = omega (arith, facts.next_mode)

  pub missing_name : Broken s (fields EN) i ↔ MissingName s i
  missing_name = (
    (λ f. (f.0, f.1, missing f.0 f.3)),
    (λ f. (f.0, f.1, none_earlier EN, not_missing f.2)),
  )

  pub wrong_order : Broken s order i ↔ WrongOrder s i
  wrong_order = (
    (λ f. (f.1, f.2 (fields EN) refl (omega arith), not_above (cell_of s) (mode_of s) i f.3)),
    (λ f. (f.1.mark, f.0, names_earlier f.1, λ above. f.2.2 (above f.2.0 f.2.1))),
  )

  -- only a certificate that remembers fails to pass on
  must_remember : (b : Bool) → ((b ≡ true → shown_before s (next_mode_of s i) ≡ signal_of s i) → ⊥) → b ≡ true
  must_remember true bad = refl
  must_remember false bad = absurd (bad (λ e. absurd (false≢true e)))

  pub other_signal : Broken s memory i ↔ OtherSignal s i
  other_signal = (
    (λ f. (f.1, f.2 (fields EN) refl (omega arith), f.2 order refl (omega arith), must_remember (remembers s) f.3, λ e. f.3 (λ _. e))),
    (λ f. (f.1.mark, f.0, order_earlier f.1 f.2, λ on. f.4 (on f.3))),
  )

  other_number : (TurnsOn s i → ⊥) → OtherNumber s i
  other_number bad = go (eqb (rank_of s i) 0) refl
    where
      go : (b : Bool) → eqb (rank_of s i) 0 ≡ b → OtherNumber s i
      go true z = not_next (eqb-true _ _ z) (λ e. bad (record { stays = λ above. absurd (omega (arith, eqb-true (rank_of s i) 0 z)); passes = λ _. e }))
      go false z =
          let above : 0 < rank_of s i = omega (arith, eqb-false (rank_of s i) 0 z) in
          changes above (λ e. bad (record { stays = λ _. e; passes = λ none. absurd (omega arith) }))

  not_other : OtherNumber s i → TurnsOn s i → ⊥
  not_other (changes above bad) on = bad (on.stays above)
  not_other (not_next none bad) on = bad (on.passes none)

  pub other_goal : Broken s goal i ↔ OtherGoal s i
  other_goal = (
    (λ f. (f.1, f.2 (fields EN) refl (omega arith), f.2 order refl (omega arith), f.2 memory refl (omega arith), other_number f.3)),
    (λ f. (f.1.mark, f.0, memory_earlier f.1 f.2 f.3, not_other f.4)),
  )
