-- A queue in a cell is at most the upper edge, and equal fractions lie in the same cell. Assumes nothing.
use Prim.Native.Nat.{ℕ, ◌*◌, ◌≤◌, ◌<◌}
use mathlib.Core.List.{List}
use mathlib.Core.Path.{◌≡◌}
use native.Mathlib.Nat.{le_trans, mul-le-mul_left, mul-le-mul_right, mul-lt-mul_of_pos_right, le_of_mul-le-mul_right, lt_of_mul-lt-mul_right}
use native.Mathlib.Omega.{arith}
use Rattle.certificate.specs.Layout.{links_of}
use Rattle.grid.specs.Intervals.{InInterval}
use Rattle.grid.specs.Cells.{upper_of, InCell}
use Rattle.grid.proofs.Edges.{at_most_upper}

-- where all upper edges of a cell are at most a bound, its queues are
pub below_bound : {s : List ℕ} {c D : ℕ} {x : ℕ → ℕ} → InCell s c D x → (bound : ℕ → ℕ) → ((l : ℕ) → l < links_of s → upper_of s c l ≤ bound l)
    → (l : ℕ) → l < links_of s → x l ≤ D * bound l
below_bound {D} h bound edges l lt = le_trans (at_most_upper _ _ _ _ _ (h.holds l lt)) (mul-le-mul_left D (edges l lt))

-- x over D and y over E, equal by cross products: a whole number's bound goes over from one to the other
module _ (D E x y n : ℕ) (d : 1 ≤ D) (equal : y * D ≡ x * E) where
  least : D * n ≤ x → E * n ≤ y
  least h = let over : E * n * D ≤ y * D = omega (arith, mul-le-mul_right E h) in le_of_mul-le-mul_right over d

  most : x ≤ D * n → y ≤ E * n
  most h = let over : y * D ≤ E * n * D = omega (arith, mul-le-mul_right E h) in le_of_mul-le-mul_right over d

  below : 1 ≤ E → x < D * n → y < E * n
  below e h = let over : y * D < E * n * D = omega (arith, mul-lt-mul_of_pos_right h e) in lt_of_mul-lt-mul_right D over

-- so equal queues lie in the same interval, and in the same cell
pub same_interval : (s : List ℕ) {l i D E x y : ℕ} → 1 ≤ D → 1 ≤ E → y * D ≡ x * E → InInterval s l i D x → InInterval s l i E y
same_interval s {D} {E} {x} {y} d e equal v =
    record {
      exists = v.exists;
      lower = least D E x y _ d equal v.lower;
      upper = λ inner. below D E x y _ d equal e (v.upper inner);
      cap = most D E x y _ d equal v.cap;
    }

pub same_cell : (s : List ℕ) {c D E : ℕ} {x y : ℕ → ℕ} → 1 ≤ D → 1 ≤ E → ((l : ℕ) → l < links_of s → y l * D ≡ x l * E) → InCell s c D x → InCell s c E y
same_cell s d e equal h = record { exists = h.exists; holds = λ l lt. same_interval s d e (equal l lt) (h.holds l lt) }
