-- Rounds of judging that pass a count on: what is next goes on from the count of a round that passes, and a refusal is the answer. How far
-- the count grows. Assumes nothing.
use Prim.Native.Nat.{ℕ, zero, suc, ◌+◌, ◌*◌, ◌-◌, ◌≤◌}
use mathlib.Core.List.{List}
use mathlib.Core.Bool.{Bool, true, false, cond}
use mathlib.Core.Logic.{⊎_elim}
use mathlib.Core.Path.{◌≡◌, refl, sym, ap, ◌∙◌}
use native.Mathlib.Nat.{suc-mul}
use native.Mathlib.Omega.{arith}
use borrow.Author.Tests.{eq-eqb, ne_eqb}
use lib.Dec.{eqb}
use Rattle.certificate.specs.declared.Report.{Report}
use Rattle.certificate.specs.Loops.{rounds, loop_from}
use Rattle.certificate.specs.Checks.{report_with, fine, need, or_else}
use Rattle.certificate.specs.Layout.{next_mode_of, cells_of, boxes_of}
use Rattle.certificate.proofs.Tests.{passes, or_next, or_stop}
use Rattle.octets.proofs.Fitting.{product_most}
use Rattle.reading.specs.declared.Certificate.{Certificate}
use Rattle.judging.specs.Lookup.{entry_for, is_listed}
use Rattle.judging.specs.EntryTests.{follows, is_lower, successor_fault, count_after, look_fault, cell_round, box_round, accepted}
use Rattle.entry_search.specs.Search.{boxes_from}

-- a refusal is the answer; else what is next goes on from its count
pub after : Report → (ℕ → Report) → Report
after r next = cond (eqb r.number 0) (next r.count) r

pub after_pass : (r : Report) (next : ℕ → Report) → r.number ≡ 0 → after r next ≡ next r.count
unfolding after
after_pass r next z = rw (eq-eqb r.number 0 z)

pub after_stop : (r : Report) (next : ℕ → Report) → (r.number ≡ 0 → ⊥) → after r next ≡ r
unfolding after
after_stop r next z = rw (ne_eqb r.number 0 z)

-- a round that does with what is next as `after` does
abbrev pub Regular : (ℕ → ℕ → (ℕ → Report) → Report) → Type 0
Regular round = (i n : ℕ) (next : ℕ → Report) → round i n next ≡ after (round i n accepted) next

or_regular : (f : Report) (n : ℕ) (next : ℕ → Report) → or_else f (next n) ≡ after (or_else f (accepted n)) next
or_regular f n next =
    ⊎_elim
    (λ (z : f.number ≡ 0). rw (or_next f (next n) z, or_next f (accepted n) z) (sym (after_pass (accepted n) next refl)))
    (λ (z : f.number ≡ 0 → ⊥). rw (or_stop f (next n) z, or_stop f (accepted n) z) (sym (after_stop f next z)))
    (passes f)

-- a loop of regular rounds is regular
module _ (round : ℕ → ℕ → (ℕ → Report) → Report) (regular : Regular round) where
  rounds_regular : (k i n : ℕ) (next : ℕ → Report) → rounds round next k i n ≡ after (rounds round accepted k i n) next
  unfolding rounds
  rounds_regular zero i n next = sym (after_pass (accepted n) next refl)
  rounds_regular (suc k) i n next =
      let r = round i n accepted in
      let rest = rounds round accepted k (i + 1) in
      ⊎_elim
      (λ (z : r.number ≡ 0). regular i n _ ∙ after_pass r _ z ∙ rounds_regular k (i + 1) r.count next ∙ ap (λ (q : Report). after q next) (sym (regular i n rest ∙ after_pass r rest z)))
      (λ (z : r.number ≡ 0 → ⊥). regular i n _ ∙ after_stop r _ z ∙ sym (ap (λ (q : Report). after q next) (regular i n rest ∙ after_stop r rest z) ∙ after_stop r next z))
      (passes r)

  pub loop_regular : (m i n : ℕ) (next : ℕ → Report) → loop_from round next m i n ≡ after (loop_from round accepted m i n) next
  unfolding loop_from
  loop_regular m i n next = rounds_regular (m - i) i n next

cell_regular : (s : List ℕ) (e b : ℕ) → Regular (cell_round s e b)
unfolding cell_round
cell_regular s e b d n next = or_regular _ _ next

pub box_regular : (s : List ℕ) (e : ℕ) → Regular (box_round s e)
unfolding box_round
box_regular s e b n next = loop_regular (cell_round s e b) (cell_regular s e b) (cells_of s) 0 n next

-- the count is at most so much above m
abbrev Within : ℕ → (ℕ → Report) → Type 0
Within c next = (m : ℕ) → (next m).count ≤ m + c

-- each round adds k to it at most
module _ (round : ℕ → ℕ → (ℕ → Report) → Report) (k : ℕ) (grows : (i n c : ℕ) (next : ℕ → Report) → Within c next → (round i n next).count ≤ n + (k + c)) where
  rounds_grow : (j i n c : ℕ) (next : ℕ → Report) → Within c next → (rounds round next j i n).count ≤ n + (j * k + c)
  unfolding rounds
  rounds_grow zero i n c next h = omega (arith, h n)
  rounds_grow (suc j) i n c next h = omega (arith, suc-mul j k, grows i n (j * k + c) (rounds round next j (i + 1)) (λ m. rounds_grow j (i + 1) m c next h))

  loop_grows : (m n c : ℕ) (next : ℕ → Report) → Within c next → (loop_from round next m 0 n).count ≤ n + (m * k + c)
  unfolding loop_from
  loop_grows m n c next h = let z : m - 0 ≡ m = omega arith in rw z (rounds_grow m 0 n c next h)

fault_count : (s : List ℕ) (e d n : ℕ) → (successor_fault s e d n).count ≤ n
unfolding successor_fault need
fault_count s e d n = go (is_listed s d (next_mode_of s e)) (is_lower s e (entry_for s d (next_mode_of s e)))
  where
    go : (p q : Bool) → (need p (report_with 14 e d n) (need q (report_with 15 e d n) fine)).count ≤ n
    go true true = omega arith
    go true false = omega arith
    go false q = omega arith

or_count : (f g : Report) (n : ℕ) → f.count ≤ n → g.count ≤ n → (or_else f g).count ≤ n
or_count f g n p q =
    ⊎_elim
    (λ (z : f.number ≡ 0). rw (or_next f g z) q)
    (λ (z : f.number ≡ 0 → ⊥). rw (or_stop f g z) p)
    (passes f)

cell_grows : (s : List ℕ) (e b d n c : ℕ) (next : ℕ → Report) → Within c next → (cell_round s e b d n next).count ≤ n + (1 + c)
unfolding cell_round look_fault count_after
cell_grows s e b d n c next h = go (follows s e b d)
  where
    go : (f : Bool) → (or_else (cond f (successor_fault s e d (n + 1)) fine) (next (cond f (n + 1) n))).count ≤ n + (1 + c)
    go true = or_count _ _ _ (omega (arith, fault_count s e d (n + 1))) (omega (arith, h (n + 1)))
    go false = or_count _ _ _ (omega arith) (omega (arith, h n))

box_grows : (s : List ℕ) (e b n c : ℕ) (next : ℕ → Report) → Within c next → (box_round s e b n next).count ≤ n + (cells_of s + c)
unfolding box_round
box_grows s e b n c next h = omega (arith, loop_grows (cell_round s e b) 1 (cell_grows s e b) (cells_of s) n c next h)

module _ (certificate : Certificate) where
  abbrev s : List ℕ
  s = certificate.bytes.now

  -- an entry looks up each cell of each box at most
  pub boxes_count : (e n : ℕ) → (boxes_from s e 0 n).count ≤ n + 32768
  unfolding boxes_from
  boxes_count e n =
      let few : boxes_of s * cells_of s ≤ 8 * 4096 = product_most 8 4096 (rw (← certificate.laid.boxes_are) certificate.laid.boxes_most) (rw (← certificate.laid.cells_are) certificate.laid.cells_most) in
      omega (arith, few, loop_grows (box_round s e) (cells_of s) (box_grows s e) (boxes_of s) n 0 accepted (λ m. omega arith))
