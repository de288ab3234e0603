-- The turns' order and running totals of shares, as reading carries them from one turn to the next. Assumes nothing.
use Prim.Native.Nat.{ℕ, ◌+◌, ◌-◌, ◌≤◌, ◌<◌}
use mathlib.Core.Bool.{Bool, true, ◌&&◌}
use mathlib.Core.List.{List}
use mathlib.Core.Logic.{⊎_elim}
use mathlib.Core.Path.{◌≡◌, refl}
use native.Mathlib.Nat.{eq-or-lt_of_le}
use native.Mathlib.Numerals.{add-one}
use native.Mathlib.Omega.{arith}
use borrow.Author.Tests.{eq-eqb, ne_eqb}
use lib.Dec.{leb, eqb}
use Rattle.certificate.specs.Octets.{◌also◌}
use Rattle.octets.proofs.Cases.{opened-whole}
use Rattle.certificate.specs.Checks.{fine, opened}
use Rattle.certificate.specs.Loops.{pick, sum_to}
use Rattle.certificate.specs.Layout.{turn_size, turn_at, from_of, to_of, share_of}
use Rattle.certificate.specs.Records.{pair_below, turn_ascends, share_total, turn_ok, turn_fault}
use Rattle.turn_records.specs.ShareTotals.{TurnWhole, turn_fits, SharesBefore}
use Rattle.certificate.proofs.Ascending.{pairs_ascend, ascends_first, ascends_after}
use Rattle.certificate.proofs.Tests.{and_both}
use Rattle.certificate.proofs.Loops.{sum_none}
use Rattle.certificate.proofs.Agreement.{also_same}
use Rattle.certificate.proofs.Shares.{total}
use Rattle.certificate.proofs.Records.{turn_says}

module _ (s : List ℕ) where
  pub turn_first : (t : ℕ) → t ≡ 0 → true ≡ turn_ascends s t
  unfolding turn_ascends
  turn_first = ascends_first (from_of s) (to_of s) (turn_ascends s) refl (λ t. refl) 0

  pub turn_after : (t : ℕ) → (t ≡ 0 → ⊥) → pair_below (from_of s (t - 1)) (to_of s (t - 1)) (from_of s t) (to_of s t) ≡ turn_ascends s t
  unfolding turn_ascends
  turn_after = ascends_after (from_of s) (to_of s) (turn_ascends s) refl (λ t. refl) 0

  -- where the turns up to t ascend, those of another link than that of t come before those of its link
  earlier : (t u : ℕ) → ((v : ℕ) → v < t + 1 → turn_ascends s v ≡ true) → u < t → from_of s u ≤ from_of s t
  unfolding turn_ascends
  earlier t u up lt =
      ⊎_elim (λ (h : from_of s u < from_of s t). omega arith) (λ (h : (from_of s u ≡ from_of s t) × (to_of s u < to_of s t)). omega arith)
      ((pairs_ascend (from_of s) (to_of s) (turn_ascends s) refl (λ k. refl) (t + 1)).0 up u t lt (omega arith))

  -- the total up to turn t is that of its link's turns before it, and its share
  total_step : (t : ℕ) → share_total s t ≡ total (from_of s) (share_of s) (from_of s t) t + share_of s t
  unfolding share_total sum_to
  total_step t = rw (add-one, eq-eqb (from_of s t) (from_of s t) refl)

  pub share_first : (t : ℕ) → t ≡ 0 → share_of s t ≡ share_total s t
  unfolding sum_to
  share_first t e = rw (total_step t, e) (omega arith)

  module _ {t before : ℕ} (B : SharesBefore s t before) (later : t ≡ 0 → ⊥) where
    pub share_same : from_of s (t - 1) ≡ from_of s t → before + share_of s t ≡ share_total s t
    unfolding share_total
    share_same e =
        let n : t - 1 + 1 ≡ t = omega arith in
        rw (total_step t, B.total (omega arith), e, n)

    pub share_new : (from_of s (t - 1) ≡ from_of s t → ⊥) → turn_ascends s t ≡ true → share_of s t ≡ share_total s t
    share_new differ up =
        let all : (v : ℕ) → v < t + 1 → turn_ascends s v ≡ true = λ v lt. ⊎_elim (λ (e : v ≡ t). rw e up) (λ l. ((turn_says s v).0 (B.passed v l)).2) (eq-or-lt_of_le (let h : v ≤ t = omega arith in h)) in
        let last : from_of s (t - 1) ≤ from_of s t = earlier t (t - 1) all (omega arith) in
        let none : (u : ℕ) → u < t → pick (eqb (from_of s u) (from_of s t)) (share_of s u) 0 ≡ 0 = λ u lt.
        ⊎_elim
        (λ (e : u ≡ t - 1). rw (e, ne_eqb (from_of s (t - 1)) (from_of s t) differ))
        (λ (l : u < t - 1). let h : from_of s u ≤ from_of s (t - 1) = earlier (t - 1) u (λ v q. all v (omega arith)) l in rw (ne_eqb (from_of s u) (from_of s t) (omega arith)))
        (eq-or-lt_of_le (let h : u ≤ t - 1 = omega arith in h)) in
        rw (total_step t, sum_none t _ none) (omega arith)

  -- the total counts only where the turn ascends
  pub turn_ok_is : (t total' : ℕ) (fits ascends : Bool) → fits ≡ turn_fits s t → ascends ≡ turn_ascends s t → (turn_ascends s t ≡ true → total' ≡ share_total s t)
      → ((fits && ascends) && leb total' 100) ≡ turn_ok s t
  unfolding turn_ok ◌also◌
  turn_ok_is t total' fits ascends e f h = rw (e, f) (also_same {a = turn_fits s t && turn_ascends s t} refl (λ p. rw (h (and_both (turn_fits s t) (turn_ascends s t) p).1)))

  -- what holds before the first turn, and after a turn that passes
  pub shares_none : SharesBefore s 0 0
  shares_none = record { passed = λ u lt. absurd (omega arith); total = λ lt. absurd (omega arith); most = omega arith }

  pub shares_next : {t before total' : ℕ} → SharesBefore s t before → (turn_ascends s t ≡ true → total' ≡ share_total s t)
      → fine ≡ turn_fault s t → SharesBefore s (t + 1) total'
  shares_next {t} {before} {total'} B h e =
      let passes : (turn_fault s t).number ≡ 0 = rw (← e) in
      let said = (turn_says s t).0 passes in
      let now' : total' ≡ share_total s t = h said.2 in
      record {
        passed = λ u lt. ⊎_elim (λ (q : u ≡ t). rw q passes) (λ l. B.passed u l) (eq-or-lt_of_le (let b : u ≤ t = omega arith in b));
        total = λ lt. let n : t + 1 - 1 ≡ t = omega arith in rw n now';
        most = omega (arith, said.3);
      }

  -- a turn whose opening passes is there whole
  pub turn_whole : (t : ℕ) {o : ℕ} → o ≡ turn_at s t → (mark : Bool) → fine ≡ opened s o mark turn_size → TurnWhole s t
  turn_whole t {o} here mark opening =
      let inside = opened-whole s o mark turn_size (omega arith) opening refl in
      omega (arith, here)
