-- How many numbers pass a test of their quotient and a range of their remainder. Assumes nothing.
use Prim.Native.Nat.{ℕ, zero, suc, ◌+◌, ◌*◌, ◌-◌, ◌/◌, ◌%◌, ◌≤◌, ◌<◌}
use mathlib.Core.Bool.{Bool, true, false, ◌&&◌}
use mathlib.Core.Path.{◌≡◌, refl, sym, ◌∙◌}
use mathlib.Core.Logic.{⊎_elim}
use native.Mathlib.Nat.{add-mul, zero-mul, one-mul, suc-mul}
use native.Mathlib.Omega.{arith}
use borrow.Author.Tests.{le-leb, lt-leb}
use lib.Dec.{leb}
use Rattle.certificate.specs.Loops.{pick, sum_to}
use Rattle.certificate.proofs.Loops.{sum_same, sum_none}
use Rattle.grid.proofs.Numbers.{split_number}
use Rattle.successors.specs.Ranges.{how_many}
use Rattle.successors.proofs.Ranging.{below_or}

sum-append : (a b : ℕ) (g : ℕ → ℕ) → sum_to (a + b) g ≡ sum_to a g + sum_to b (λ i. g (a + i))
unfolding sum_to
sum-append a zero g = let e : a + 0 ≡ a = omega arith in rw e (omega arith)
sum-append a (suc b) g =
    let e : a + suc b ≡ suc (a + b) = omega arith in
    rw e (omega (arith, sum-append a b g))

-- a sum in rows of c
sum_rows : (n c : ℕ) (g h : ℕ → ℕ) → ((p : ℕ) → p < n → sum_to c (λ i. g (p * c + i)) ≡ h p) → sum_to (n * c) g ≡ sum_to n h
unfolding sum_to
sum_rows zero c g h e = rw (zero-mul c)
sum_rows (suc n) c g h e = rw (suc-mul n c) (omega (arith, sum-append (n * c) c g, sum_rows n c g h (λ p lt. e p (omega arith)), e n (omega arith)))

sum_times : (n : ℕ) (f : ℕ → ℕ) (r : ℕ) → sum_to n (λ k. f k * r) ≡ sum_to n f * r
unfolding sum_to
sum_times zero f r = omega (arith, zero-mul r)
sum_times (suc n) f r = omega (arith, sum_times n f r, add-mul (sum_to n f) (f n) r)

-- none passes
pub none_pass : (n : ℕ) (p : ℕ → Bool) → ((k : ℕ) → k < n → p k ≡ false) → how_many n p ≡ 0
none_pass n p h = sum_none n _ (λ k lt. rw (h k lt))

module _ (f t : ℕ) (filled : f ≤ t) where
  -- one more number of the range first .. last, or one before or behind it
  in_it : (i : ℕ) → f ≤ i → i ≤ t → pick (leb f i && leb i t) 1 0 ≡ 1
  in_it i a b = rw (le-leb f i a, le-leb i t b)

  before_it : (i : ℕ) → i < f → pick (leb f i && leb i t) 1 0 ≡ 0
  before_it i a = rw (lt-leb f i a)

  behind_it : (i : ℕ) → t < i → pick (leb f i && leb i t) 1 0 ≡ 0
  behind_it i a = rw (le-leb f i (omega arith), lt-leb i t a)

  range_sum : (m : ℕ) → m ≤ t + 1 → sum_to m (λ i. pick (leb f i && leb i t) 1 0) ≡ m - f
  unfolding sum_to
  range_sum zero le = omega arith
  range_sum (suc m) le =
      ⊎_elim
      (λ (a : m < f). omega (arith, range_sum m (omega arith), before_it m a))
      (λ (b : f ≤ m). omega (arith, range_sum m (omega arith), in_it m b (omega arith)))
      (below_or m f)

  range_past : (k : ℕ) → sum_to (t + 1 + k) (λ i. pick (leb f i && leb i t) 1 0) ≡ t + 1 - f
  unfolding sum_to
  range_past zero = let e : t + 1 + 0 ≡ t + 1 = omega arith in rw e (range_sum (t + 1) (omega arith))
  range_past (suc k) =
      let e : t + 1 + suc k ≡ suc (t + 1 + k) = omega arith in
      rw e (omega (arith, range_past k, behind_it (t + 1 + k) (omega arith)))

  range_all : (c : ℕ) → t < c → sum_to c (λ i. pick (leb f i && leb i t) 1 0) ≡ t + 1 - f
  range_all c lt = let e : t + 1 + (c - (t + 1)) ≡ c = omega arith in rw e at (range_past (c - (t + 1)))

  -- numbers whose quotient passes and whose remainder lies in the range
  pub many_more : (p : ℕ → Bool) (n c : ℕ) → t < c → how_many (n * c) (λ q. p (q / c) && (leb f (q % c) && leb (q % c) t)) ≡ how_many n p * (t + 1 - f)
  many_more p n c lt = sum_rows n c _ (λ k. pick (p k) 1 0 * (t + 1 - f)) (λ k h. same k ∙ row (p k)) ∙ sum_times n _ (t + 1 - f)
    where
      same : (k : ℕ) → sum_to c (λ i. pick (p ((k * c + i) / c) && (leb f ((k * c + i) % c) && leb ((k * c + i) % c) t)) 1 0) ≡ sum_to c (λ i. pick (p k && (leb f i && leb i t)) 1 0)
      same k = sum_same c _ _ (λ i below. rw ((split_number k c i below).0, (split_number k c i below).1))

      row : (b : Bool) → sum_to c (λ i. pick (b && (leb f i && leb i t)) 1 0) ≡ pick b 1 0 * (t + 1 - f)
      row true = range_all c lt ∙ sym (one-mul _)
      row false = sum_none c _ (λ _ _. refl) ∙ sym (zero-mul (t + 1 - f))
