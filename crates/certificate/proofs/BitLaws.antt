-- A number is the sum of the values of its bits. Assumes nothing.
use Prim.Native.Nat.{ℕ, zero, suc, ◌+◌, ◌*◌, ◌/◌, ◌%◌, ◌^◌}
use mathlib.Core.Bool.{Bool, true, false}
use mathlib.Core.Path.{◌≡◌, refl, ap, ◌∙◌}
use native.Mathlib.Nat.{div-div-eq-div-mul, div-eq_of_lt, div-one, mul-zero, mul-add, mul-one, pow-suc, mul_assoc}
use native.Mathlib.Omega.{arith}
use borrow.Author.Tests.{eqb-true, eqb-false}
use lib.Dec.{eqb}
use Rattle.certificate.specs.Octets.{bit_of}
use Rattle.certificate.specs.Loops.{pick, sum_to}
use Rattle.certificate.specs.Laws.{BitsAre}

-- m times a number is m, where that is odd, and 2 × m times its half
halved : (m q : ℕ) → m * q ≡ pick (eqb (q % 2) 1) m 0 + m * 2 * (q / 2)
halved m q = go (eqb (q % 2) 1) refl
  where
    go : (b : Bool) → eqb (q % 2) 1 ≡ b → m * q ≡ pick b m 0 + m * 2 * (q / 2)
    go true e =
        let odd : q % 2 ≡ 1 = eqb-true _ _ e in
        let whole : q ≡ 1 + 2 * (q / 2) = omega arith in
        ap (λ (k : ℕ). m * k) whole ∙ rw (mul-add, mul-one, mul_assoc)
    go false e =
        let other : q % 2 ≡ 1 → ⊥ = eqb-false _ _ e in
        let whole : q ≡ 2 * (q / 2) = omega arith in
        ap (λ (k : ℕ). m * k) whole ∙ rw (← mul_assoc m 2 (q / 2)) (omega arith)

-- the first n bits, and the rest
bits_so_far : (n x : ℕ) → sum_to n (λ i. pick (bit_of x i) (2 ^ i) 0) + 2 ^ n * (x / 2 ^ n) ≡ x
unfolding sum_to bit_of
bits_so_far zero x = omega (arith, div-one x)
bits_so_far (suc n) x =
    let half : x / 2 ^ n / 2 ≡ x / (2 ^ n * 2) = div-div-eq-div-mul x (2 ^ n) 2 in
    rw (pow-suc, ← half) (omega (arith, bits_so_far n x, halved (2 ^ n) (x / 2 ^ n)))

pub bits_are : BitsAre
bits_are n x lt = omega (arith, bits_so_far n x, ap (λ (k : ℕ). 2 ^ n * k) (div-eq_of_lt lt) ∙ mul-zero (2 ^ n))
