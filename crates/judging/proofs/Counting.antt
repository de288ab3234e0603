-- How many successors are looked up, at most, before each place. Assumes nothing.
use Prim.Native.Nat.{ℕ, zero, suc, ◌+◌, ◌*◌, ◌≤◌, ◌<◌}
use mathlib.Core.List.{List}
use mathlib.Core.Bool.{Bool, true, false}
use native.Mathlib.Nat.{suc-mul, mul-one, mul_assoc, le_trans, mul-le-mul_right}
use native.Mathlib.Omega.{arith}
use Rattle.certificate.specs.Loops.{pick, sum_to}
use Rattle.certificate.specs.Layout.{cells_of, boxes_of, entries_of, cell_of}
use Rattle.network.specs.Network.{entry_limit}
use Rattle.grid.specs.Successors.{is_successor}
use Rattle.judging.specs.Conditions.{looked_cells, looked_boxes, looked_entries}

-- a sum of n terms that are at most k
sum_most : (n k : ℕ) (f : ℕ → ℕ) → ((t : ℕ) → f t ≤ k) → sum_to n f ≤ n * k
unfolding sum_to
sum_most zero k f h = omega arith
sum_most (suc n) k f h = rw suc-mul (omega (arith, sum_most n k f h, h n))

-- at most n of n indices pass a test
pub ones_most : (n : ℕ) (p : ℕ → Bool) → sum_to n (λ k. pick (p k) 1 0) ≤ n
ones_most n p = rw mul-one at (sum_most n 1 (λ k. pick (p k) 1 0) (λ t. one (p t)))
  where
    one : (q : Bool) → pick q 1 0 ≤ 1
    one true = omega arith
    one false = omega arith

module _ (s : List ℕ) where
  cells_most : (e b d : ℕ) → looked_cells s e b d ≤ d
  cells_most e b d = ones_most d (is_successor s (entry_limit s e) b (cell_of s e))

  boxes_most : (e b : ℕ) → looked_boxes s e b ≤ b * cells_of s
  boxes_most e b = sum_most b (cells_of s) (λ k. looked_cells s e k (cells_of s)) (λ k. cells_most e k (cells_of s))

  entries_most : (e : ℕ) → looked_entries s e ≤ e * (boxes_of s * cells_of s)
  entries_most e = sum_most e (boxes_of s * cells_of s) (λ k. looked_boxes s k (boxes_of s)) (λ k. boxes_most k (boxes_of s))

  -- at most entries × boxes × cells, before an entry and at a cell
  pub entries_fit : (e : ℕ) → e ≤ entries_of s → looked_entries s e ≤ entries_of s * boxes_of s * cells_of s
  entries_fit e le = rw mul_assoc (le_trans (entries_most e) (mul-le-mul_right (boxes_of s * cells_of s) le))

  pub cells_fit : (e b d : ℕ) → e < entries_of s → b < boxes_of s → d < cells_of s
      → looked_entries s e + looked_boxes s e b + looked_cells s e b d + 1 ≤ entries_of s * boxes_of s * cells_of s
  cells_fit e b d le lb ld =
      let entries : suc e * (boxes_of s * cells_of s) ≤ entries_of s * (boxes_of s * cells_of s) = mul-le-mul_right (boxes_of s * cells_of s) le in
      let boxes : suc b * cells_of s ≤ boxes_of s * cells_of s = mul-le-mul_right (cells_of s) lb in
      rw mul_assoc (omega (arith, rw suc-mul at entries, rw suc-mul at boxes, entries_most e, boxes_most e b, cells_most e b d))
