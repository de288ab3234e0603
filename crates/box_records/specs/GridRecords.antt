-- What reading the grid records finds out about where they stand.
use Rattle.std.specs.Prelude.{ℕ, ◌+◌, ◌*◌, ◌-◌, ◌≤◌, ◌<◌, List, ◌≡◌, length, get_or, leb}
use Rattle.certificate.specs.declared.Report.{Report}
use Rattle.certificate.specs.Checks.{refusal, need, first_bad}
use Rattle.certificate.specs.Layout.{max_links, max_intervals, max_cells, grid_size, grid_at, intervals_of, product_of}
use Rattle.certificate.specs.Records.{cut_fault}
use Rattle.octets.specs.Bounds.{grids_bound}

-- the last tests of a GR (certificate specs/Records.antt, `grid_fault`): its cuts are present, and in order
abbrev pub cuts_fault : List ℕ → ℕ → Report
cuts_fault s l =
    need (leb (grid_at s l + grid_size (intervals_of s l)) (length s)) (refusal 1 (grid_at s l))
    (first_bad (intervals_of s l - 1) (cut_fault s l))

-- the grid records of the first n links: where each stands, and 0 at every other place; where the last ends; the product of their counts
pub record GridsLaid (s : List ℕ) (n : ℕ) (places : List ℕ) (stop cells : ℕ) : Type 0 where
  pub sized : length places ≡ max_links
  pub place : (l : ℕ) → l < n → get_or places l 0 ≡ grid_at s l
  pub no_place : (l : ℕ) → n ≤ l → get_or places l 0 ≡ 0
  pub end_is : stop ≡ grid_at s n
  pub end_most : stop ≤ grids_bound + grid_size max_intervals * n
  pub cells_are : cells ≡ product_of s n
  pub cells_least : 1 ≤ cells
  pub cells_most : cells ≤ max_cells
