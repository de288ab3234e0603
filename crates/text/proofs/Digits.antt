-- The digits of a number: how many they are, and storing them last digit first. Assumes nothing.
use mathlib.Core.Path.{◌≡◌, refl}
use mathlib.Core.Bool.{Bool, true, false}
use mathlib.Core.List.{List}
use Prim.Native.Nat.{ℕ, zero, suc, ◌+◌, ◌*◌, ◌/◌, ◌%◌, ◌^◌, ◌≤◌, ◌<◌}
use native.Mathlib.Omega.{arith}
use native.Mathlib.Nat.{pow-suc}
use borrow.Author.Tests.{ltb-true, ltb-false}
use lib.Dec.{ltb}
use lib.ListN.{length, set}
use Rattle.listing_text.specs.Text.{decimal}
use Rattle.listing_text.proofs.Digits.{decimal_one, decimal_step, decimal_least, decimal_short, length_one, length_step}
use Rattle.text.specs.TextPut.{written}
use Rattle.text.proofs.Placing.{written_one, written_back}

-- a number from a power of ten on has more digits than that has zeros
decimal_long : (k n : ℕ) → 10 ^ k ≤ n → n < 10 ^ 10 → k + 1 ≤ length (decimal n)
decimal_long zero n low high = decimal_least n
decimal_long (suc k) n low high =
    omega (arith, length_step n high (omega (arith, pow-suc 10 k, pow-pos k)), decimal_long k (n / 10) (omega (arith, pow-suc 10 k)) (omega arith))
  where
    pow-pos : (k : ℕ) → 1 ≤ 10 ^ k
    pow-pos zero = omega arith
    pow-pos (suc k) = omega (arith, pow-suc 10 k, pow-pos k)

pub length_by_log : (n k : ℕ) → n < 10 ^ 10 → 10 ^ k ≤ n → n < 10 * 10 ^ k → k + 1 ≡ length (decimal n)
length_by_log n k high low above = omega (arith, decimal_long k n low high, decimal_short k n (omega (arith, pow-suc 10 k)))

-- a number with more digits than one, and one with one
pub more_digits : (n : ℕ) → 2 ≤ length (decimal n) → 10 ≤ n
more_digits n more = go (ltb n 10) refl
  where
    go : (t : Bool) → ltb n 10 ≡ t → 10 ≤ n
    go true e = absurd (omega (arith, length_one n (ltb-true n 10 e)))
    go false e = ltb-false n 10 e

pub one_digit : (n : ℕ) → n < 10 ^ 10 → length (decimal n) ≤ 1 → n < 10
one_digit n high one = go (ltb n 10) refl
  where
    go : (t : Bool) → ltb n 10 ≡ t → n < 10
    go true e = ltb-true n 10 e
    go false e = absurd (omega (arith, length_step n high (ltb-false n 10 e), decimal_least (n / 10)))

-- the last digit stored: what is left to put is the tenth's
pub digit_stored : (b : List ℕ) (at n i v : ℕ) → i < length b → n < 10 ^ 10 → 10 ≤ n → i + 1 ≡ at + length (decimal n) → v ≡ 48 + n % 10
    → written (set b i v) at (decimal (n / 10)) ≡ written b at (decimal n)
digit_stored b at n i v within high ten place digit =
    let step = length_step n high ten in
    let here : i ≡ at + length (decimal (n / 10)) = omega arith in
    rw (decimal_step n high ten, here, digit) (written_back b at (decimal (n / 10)) (48 + n % 10) (omega arith))

-- the only digit stored: nothing is left
pub digit_last : (b : List ℕ) (n i v : ℕ) → i < length b → n < 10 → v ≡ 48 + n → set b i v ≡ written b i (decimal n)
digit_last b n i v within small digit = rw (decimal_one n small, digit) (written_one b i (48 + n) within)
