-- How far the records of arrival boxes reach. Assumes nothing.
use Prim.Native.Nat.{ℕ, ◌+◌, ◌*◌, ◌≤◌, ◌<◌}
use native.Mathlib.Nat.{mul-le-mul, le_of_lt}
use native.Mathlib.Omega.{arith}
use Rattle.certificate.specs.Layout.{arrival_size}

-- how far from the first arrival box another one is
pub box_offset : (links b : ℕ) → links ≤ 8 → b < 256 → arrival_size links * b ≤ 8704
box_offset links b p q =
    let h : 2 + 4 * links ≤ 34 = omega arith in
    let k : arrival_size links * b ≤ 34 * 256 = mul-le-mul h (le_of_lt q) in
    omega arith
