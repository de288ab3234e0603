-- The flow rule does not depend on the scale: over k times the scale everything is k times as large. Assumes nothing.
use Prim.Native.Nat.{ℕ, zero, suc, ◌*◌, min, ◌≤◌}
use mathlib.Core.Bool.{Bool, true, false}
use mathlib.Core.Path.{◌≡◌, refl}
use native.Mathlib.Nat.{min-eq_left, min-eq_right, mul-le-mul_left, mul-zero, mul-add, mul-sub, mul_assoc, mul_left_comm}
use native.Mathlib.Omega.{arith}
use borrow.Author.Tests.{leb-true, leb-false}
use lib.Dec.{eqb, leb}
use Rattle.certificate.specs.Loops.{pick, sum_to}
use Rattle.network.specs.Network.{Network}
use Rattle.network.specs.Flow.{least_to, sent, passed_in, gross, next}
use Rattle.network.specs.Laws.{ScaleFree}

-- the least of two multiples is that multiple of the least
min_scale : (k a b : ℕ) → min (k * a) (k * b) ≡ k * min a b
min_scale k a b = go (leb a b) refl
  where
    go : (q : Bool) → leb a b ≡ q → min (k * a) (k * b) ≡ k * min a b
    go true q = let h : a ≤ b = leb-true _ _ q in rw (min-eq_left h, min-eq_left (mul-le-mul_left k h))
    go false q = let h : b ≤ a = omega (arith, leb-false a b q) in rw (min-eq_right h, min-eq_right (mul-le-mul_left k h))

-- so are a term that counts or not, the least of several, and a sum
pick_scale : (k : ℕ) (q : Bool) (a : ℕ) → pick q (k * a) 0 ≡ k * pick q a 0
pick_scale k true a = refl
pick_scale k false a = rw mul-zero

least_scale : (k n : ℕ) (p : ℕ → Bool) (f g : ℕ → ℕ) (b c : ℕ) → ((t : ℕ) → f t ≡ k * g t) → b ≡ k * c → least_to n p f b ≡ k * least_to n p g c
unfolding least_to
least_scale k zero p f g b c h e = e
least_scale k (suc n) p f g b c h e = rw (least_scale k n p f g b c h e, h n) (go (p n))
  where
    go : (q : Bool) → pick q (min (k * g n) (k * least_to n p g c)) (k * least_to n p g c) ≡ k * pick q (min (g n) (least_to n p g c)) (least_to n p g c)
    go true = min_scale k _ _
    go false = refl

sum_scale : (k n : ℕ) (f g : ℕ → ℕ) → ((t : ℕ) → f t ≡ k * g t) → sum_to n f ≡ k * sum_to n g
unfolding sum_to
sum_scale k zero f g h = rw mul-zero
sum_scale k (suc n) f g h = rw (sum_scale k n f g h, h n, mul-add)

module _ (N : Network) (limit : ℕ → ℕ) (k D : ℕ) (x : ℕ → ℕ) where
  sent_scale : (j : ℕ) → sent N limit (k * D) (λ i. k * x i) j ≡ k * sent N limit D x j
  unfolding sent
  sent_scale j =
      least_scale k N.turns _ _ _ _ _
      (λ t. rw (mul_assoc, ← mul-sub, mul_left_comm _ k _))
      (simp (mul_assoc, mul_left_comm 100 k) (min_scale k (100 * x j) (100 * (D * limit j))))

  passed_scale : (l : ℕ) → passed_in N limit (k * D) (λ i. k * x i) l ≡ k * passed_in N limit D x l
  unfolding passed_in
  passed_scale l = sum_scale k N.turns _ _ (λ t. simp (sent_scale, mul_left_comm (N.share t) k) (pick_scale k (eqb (N.to t) l) (N.share t * sent N limit D x (N.from t))))

  gross_scale : (a : ℕ → ℕ) (l : ℕ) → gross N limit (k * D) (λ i. k * x i) (λ i. k * a i) l ≡ k * gross N limit D x a l
  unfolding gross
  gross_scale a l = simp (sent_scale, passed_scale, mul_left_comm 10000 k, mul_left_comm 100 k, mul-add, mul-sub)

pub scale_free : ScaleFree
unfolding next
scale_free N limit k D x a l =
    let before = gross_scale N limit k D x a l in
    (before, omega (arith, mul_assoc k D (N.cap l), mul_left_comm 10000 k (D * N.cap l), min_scale k (10000 * (D * N.cap l)) (gross N limit D x a l)))
