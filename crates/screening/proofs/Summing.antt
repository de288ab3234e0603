-- Sums of turns by the link that they lead to, kept in an array of eight, one turn after another. Assumes nothing.
use Prim.Native.Nat.{ℕ, zero, suc, ◌+◌, ◌*◌, ◌≤◌, ◌<◌}
use mathlib.Core.List.{List}
use mathlib.Core.Bool.{Bool, true, false}
use mathlib.Core.Path.{◌≡◌, refl, sym}
use mathlib.Core.Logic.{⊎_elim}
use native.Mathlib.Nat.{add-mul, eq-or-lt_of_le}
use native.Mathlib.Omega.{arith}
use borrow.Author.Tests.{eqb-true, eqb-false}
use lib.Dec.{eqb}
use lib.ListN.{length, get_or, set, replicate, length-set, get_or-replicate}
use lib.Seq.{get_or-set_same, get_or-set_other}
use Rattle.certificate.specs.Loops.{pick, sum_to}
use Rattle.certificate.proofs.Loops.{sum_next}
use Rattle.screening.specs.NetworkParts.{into}

-- a sum goes on unchanged where the terms are 0
pub sum_flat : (m n : ℕ) (f : ℕ → ℕ) → m ≤ n → ((t : ℕ) → m ≤ t → t < n → f t ≡ 0) → sum_to n f ≡ sum_to m f
unfolding sum_to
sum_flat m zero f h none = let e : m ≡ 0 = omega arith in rw e refl
sum_flat m (suc n) f h none =
    ⊎_elim
    (λ (e : m ≡ suc n). rw e refl)
    (λ (l : m < suc n). omega (arith, none n (omega arith) (omega arith), sum_flat m n f (omega arith) (λ t a c. none t a (omega arith))))
    (eq-or-lt_of_le h)

-- and two sums grow alike where their terms agree
pub sum_alike : (m n : ℕ) (f g : ℕ → ℕ) → m ≤ n → ((t : ℕ) → m ≤ t → t < n → f t ≡ g t) → sum_to n f + sum_to m g ≡ sum_to n g + sum_to m f
unfolding sum_to
sum_alike m zero f g h same = let e : m ≡ 0 = omega arith in rw e refl
sum_alike m (suc n) f g h same =
    ⊎_elim
    (λ (e : m ≡ suc n). rw e (omega arith))
    (λ (l : m < suc n). omega (arith, same n (omega arith) (omega arith), sum_alike m n f g (omega arith) (λ t a c. same t a (omega arith))))
    (eq-or-lt_of_le h)

-- sums has, of each of n links, b and the sum of f over those of the first t turns that lead into it, less a; all stay at most most + t * more
pub record Summed (n : ℕ) (to f a b : ℕ → ℕ) (most more t : ℕ) (sums : List ℕ) : Type 0 where
  pub long : n ≤ length sums
  pub at : (l : ℕ) → l < n → get_or sums l 0 + a l ≡ b l + sum_to t (into to f l)
  pub fits : (l : ℕ) → l < n → get_or sums l 0 ≤ most + t * more

-- one turn more: v is added to the sum of link k
pub summed_more : (n : ℕ) (to f a b : ℕ → ℕ) (most more t : ℕ) (sums : List ℕ) (k v : ℕ) → Summed n to f a b most more t sums → k < n → k ≡ to t → v ≡ f t → v ≤ more
    → Summed n to f a b most more (t + 1) (set sums k (get_or sums k 0 + v))
summed_more n to f a b most more t sums k v S hk ek ev hv =
    record {
      long = simp length-set S.long;
      at = λ l h. rw sum_next (omega (arith, S.at l h, adds l (eqb k l) refl));
      fits = λ l h. rw add-mul (omega (arith, S.fits l h, adds l (eqb k l) refl, at_most l (eqb (to t) l)));
    }
  where
    adds : (l : ℕ) (q : Bool) → eqb k l ≡ q → get_or (set sums k (get_or sums k 0 + v)) l 0 ≡ get_or sums l 0 + into to f l t
    adds l true q =
        let here : k ≡ l = eqb-true _ _ q in
        let yes : eqb (to t) l ≡ true = rw (← ek) q in
        rw (yes, ← here, ← ev) (get_or-set_same sums k _ 0 (omega (arith, S.long)))
    adds l false q =
        let no : eqb (to t) l ≡ false = rw (← ek) q in
        rw no (omega (arith, get_or-set_other sums k l (get_or sums k 0 + v) 0 (λ e. eqb-false _ _ q (sym e))))

    at_most : (l : ℕ) (q : Bool) → pick q (f t) 0 ≤ more
    at_most l true = omega arith
    at_most l false = omega arith

-- nothing is added yet to eight zeros
pub summed_zeros : (n : ℕ) (to f : ℕ → ℕ) (more : ℕ) → n ≤ 8 → Summed n to f (λ _. 0) (λ _. 0) 0 more 0 (replicate 8 0)
unfolding sum_to
summed_zeros n to f more h = record { long = h; at = λ l lt. omega (arith, zero_at l lt); fits = λ l lt. omega (arith, zero_at l lt) }
  where
    zero_at : (l : ℕ) → l < n → ◌≡◌ {A = ℕ} (get_or (replicate 8 0) l 0) 0
    zero_at l lt = get_or-replicate {A = ℕ} 8 l 0 0 (omega arith)
