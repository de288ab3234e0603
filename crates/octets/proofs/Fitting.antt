-- Products of two bounded numbers are bounded, so that the code's offsets fit. Assumes nothing.
use Prim.Native.Nat.{ℕ, ◌*◌, ◌≤◌}
use native.Mathlib.Nat.{mul-le-mul}

-- the bounds are numerals at each use: m * n computes
pub product_most : (m n : ℕ) {a b : ℕ} → a ≤ m → b ≤ n → a * b ≤ m * n
product_most m n p q = mul-le-mul p q
