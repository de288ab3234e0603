-- A readable certificate has 1 to 4,096 cells, and is no longer than the greatest length. Assumes nothing.
use Prim.Native.Nat.{ℕ, zero, suc, ◌+◌, ◌*◌, ◌≤◌}
use mathlib.Core.List.{List}
use native.Mathlib.Nat.{mul-le-mul, one-le-mul}
use native.Mathlib.Omega.{arith}
use Rattle.certificate.specs.Layout.{max_intervals, max_cells, max_links, max_modes, max_boxes, grid_size, arrival_size, links_of, boxes_of, mode_records_of, turns_start, signals_start, modes_start, grid_start, grid_at, product_of, arrivals_start, entries_start, end_at}
use Rattle.certificate.specs.Facts.{Readable}
use Rattle.certificate.specs.Laws.{CellsInRange, ReadableFits}
use Rattle.certificate.proofs.KindSizes.{links_most, records_most, all_modes_most}

module _ (s : List ℕ) (R : Readable s) where
  product_least : (l : ℕ) → l ≤ links_of s → 1 ≤ product_of s l
  unfolding product_of
  product_least zero h = omega arith
  product_least (suc l) h = one-le-mul (product_least l (omega arith)) (R.grid l h).count_least

  product_most : (l : ℕ) → 1 ≤ l → l ≤ links_of s → product_of s l ≤ max_cells
  unfolding product_of
  product_most zero p h = absurd (omega arith)
  product_most (suc l) p h = (R.grid l h).product_most

  -- each grid record adds its greatest size at most
  grid_most : (l : ℕ) → l ≤ links_of s → grid_at s l ≤ grid_start s + grid_size max_intervals * l
  unfolding grid_at
  grid_most zero h = omega arith
  grid_most (suc l) h = omega (arith, grid_most l (omega arith), (R.grid l h).count_most)

  boxes_most : arrival_size (links_of s) * boxes_of s ≤ arrival_size max_links * max_boxes
  boxes_most =
      let h : arrival_size (links_of s) ≤ arrival_size max_links = omega (arith, R.header.links_most) in
      mul-le-mul h R.header.boxes_most

pub cells_in_range : CellsInRange
cells_in_range s R = (product_least s R (links_of s) (omega arith), product_most s R (links_of s) R.header.links_least (omega arith))

pub readable_fits : ReadableFits
unfolding turns_start signals_start modes_start grid_start arrivals_start entries_start end_at
readable_fits s R =
    let links = links_most s (links_of s) max_links R.header.links_most in
    let modes = all_modes_most s R.header.links_most (mode_records_of s) max_modes (omega (arith, records_most s, R.header.modes_most)) in
    omega (arith, R.header, links, modes, R.whole, grid_most s R (links_of s) (omega arith), boxes_most s R)
