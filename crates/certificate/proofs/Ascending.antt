-- Where each neighbour is above the one before it, all pairs ascend: for cuts, and for the pairs of turns and of entries. Assumes nothing.
use Prim.Native.Nat.{ℕ, zero, suc, ◌-◌, ◌≤◌, ◌<◌}
use mathlib.Core.Bool.{Bool, true, false, ◌&&◌, ◌||◌}
use mathlib.Core.Path.{◌≡◌, refl, ap, ◌∙◌}
use mathlib.Core.Logic.{◌↔◌, inl, inr, ⊎_elim}
use native.Mathlib.Nat.{eq-or-lt_of_le, le_trans, le_of_eq}
use native.Mathlib.Omega.{arith}
use borrow.Author.Tests.{le-ltb, lt-ltb, eq-eqb}
use lib.Dec.{ltb, eqb}
use Rattle.certificate.specs.Records.{pair_below}
use Rattle.certificate.specs.Facts.{PairBelow}
use Rattle.certificate.specs.Due.{Above}
use Rattle.certificate.proofs.Says.{says, ltb_says}

-- a relation that holds of neighbours below n and that joins holds of all pairs below n
pub all_ascend : (R : ℕ → ℕ → Type 0) → ((i j k : ℕ) → R i j → R j k → R i k)
    → (n : ℕ) → ((i : ℕ) → suc i < n → R i (suc i)) → (i j : ℕ) → i < j → j < n → R i j
all_ascend R join n next i zero a b = absurd (omega arith)
all_ascend R join n next i (suc j) a b =
    let h : i ≤ j = omega arith in
    ⊎_elim (λ (e : i ≡ j). rw e (next j b)) (λ l. join i j (suc j) (all_ascend R join n next i j l (omega arith)) (next j b)) (eq-or-lt_of_le h)

-- a function that never falls from one number to the next never falls
pub grows : (f : ℕ → ℕ) → ((n : ℕ) → f n ≤ f (suc n)) → (m n : ℕ) → m ≤ n → f m ≤ f n
grows f step m n h =
    ⊎_elim (λ (e : m ≡ n). le_of_eq (ap f e)) (λ l. all_ascend (λ i j. f i ≤ f j) (λ i j k. le_trans) (suc n) (λ i lt. step i) m n l (omega arith)) (eq-or-lt_of_le h)

-- a pair below a pair that is below a third is below the third
below_join : (a b c d e f : ℕ) → PairBelow a b c d → PairBelow c d e f → PairBelow a b e f
below_join a b c d e f (inl p) (inl q) = inl (omega arith)
below_join a b c d e f (inl p) (inr q) = inl (omega arith)
below_join a b c d e f (inr p) (inl q) = inl (omega arith)
below_join a b c d e f (inr p) (inr q) = inr (omega arith)

-- what the test of two pairs says
pair_says : (a b c d : ℕ) → (pair_below a b c d ≡ true) ↔ PairBelow a b c d
unfolding pair_below
pair_says a b c d = (there (ltb a c) refl, back)
  where
    there : (q : Bool) → ltb a c ≡ q → (q || (eqb a c && ltb b d)) ≡ true → PairBelow a b c d
    there true e h = inl ((ltb_says a c).0 e)
    there false e h = inr (simp says at h)

    back : PairBelow a b c d → (ltb a c || (eqb a c && ltb b d)) ≡ true
    back (inl p) = rw ((ltb_says a c).1 p)
    back (inr p) = rw (le-ltb a c (omega arith), eq-eqb a c p.0, lt-ltb b d p.1)

-- a test of each pair against the one before it
module _ (f g : ℕ → ℕ) (ascends : ℕ → Bool) (first : ascends 0 ≡ true)
    (next : (t : ℕ) → ascends (suc t) ≡ pair_below (f t) (g t) (f (suc t)) (g (suc t))) where
  pub ascends_says : (t : ℕ) → (ascends t ≡ true) ↔ Above f g t
  ascends_says zero = ((λ _ h e. absurd (omega arith)), (λ _. first))
  ascends_says (suc t) = (there, (λ above. next t ∙ (pair_says _ _ _ _).1 (above t (omega arith))))
    where
      there : ascends (suc t) ≡ true → Above f g (suc t)
      there e h last = let same : h ≡ t = omega arith in rw same ((pair_says _ _ _ _).0 (rw next at e))

  module _ (n : ℕ) where
    pub pairs_ascend : ((t : ℕ) → t < n → ascends t ≡ true) ↔ ((t u : ℕ) → t < u → u < n → PairBelow (f t) (g t) (f u) (g u))
    pairs_ascend =
        (λ h. all_ascend (λ t u. PairBelow (f t) (g t) (f u) (g u)) (λ t u v. below_join _ _ _ _ _ _) n (λ t lt. (pair_says _ _ _ _).0 (rw next at (h (suc t) lt))), back)
      where
        back : ((t u : ℕ) → t < u → u < n → PairBelow (f t) (g t) (f u) (g u)) → (t : ℕ) → t < n → ascends t ≡ true
        back h zero lt = first
        back h (suc t) lt = next t ∙ (pair_says _ _ _ _).1 (h t (suc t) (omega arith) lt)

    -- the first pair passes, and a later one is tested against the one before it
    pub ascends_first : (t : ℕ) → t ≡ 0 → true ≡ ascends t
    ascends_first t e = rw (e, first)

    pub ascends_after : (t : ℕ) → (t ≡ 0 → ⊥) → pair_below (f (t - 1)) (g (t - 1)) (f t) (g t) ≡ ascends t
    ascends_after zero h = absurd (h refl)
    ascends_after (suc t) h = let e : suc t - 1 ≡ t = omega arith in rw (e, next)
