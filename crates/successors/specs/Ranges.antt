-- The ranges of intervals that meet an image, and the runs of cells in them.
use Rattle.std.specs.Prelude.{ℕ, ◌+◌, ◌*◌, ◌≤◌, ◌<◌, List, Bool, true, ◌&&◌, cond, ◌≡◌, get_or, leb, ltb}
use Rattle.certificate.specs.Loops.{pick, every, sum_to}
use Rattle.certificate.specs.Layout.{max_cells, links_of, cap_of, intervals_of, cells_of}
use Rattle.grid.specs.Intervals.{is_inner, lower_edge, upper_edge}
use Rattle.grid.specs.Cells.{interval_in}
use Rattle.grid.specs.Successors.{meets}
use Rattle.successors.specs.declared.ranges.Ranges.{Ranges}

-- the low end of a range of ten thousandths lies below the upper edge of interval i, or at it for the last, as in `meets`
unfoldable pub low_meets : List ℕ → ℕ → ℕ → ℕ → Bool
low_meets s l i low = cond (is_inner s l i) (ltb low (10000 * upper_edge s l i)) (leb low (10000 * cap_of s l))

-- r is the first interval of link l that is not below the low end (its count where all are), or the last that is not above the high end
pub record IsFirst (s : List ℕ) (l low r : ℕ) : Type 0 where
  pub most : r ≤ intervals_of s l
  pub from : (i : ℕ) → i < intervals_of s l → leb r i ≡ low_meets s l i low

pub record IsLast (s : List ℕ) (l high r : ℕ) : Type 0 where
  pub most : r < intervals_of s l
  pub to : (i : ℕ) → i < intervals_of s l → leb i r ≡ leb (10000 * lower_edge s l i) high

-- interval i of link l lies in its range
abbrev pub in_range : Ranges → ℕ → ℕ → Bool
in_range ranges l i = leb (get_or ranges.first l 0) i && leb i (get_or ranges.last l 0)

-- every interval of cell c does
unfoldable pub in_ranges : List ℕ → Ranges → ℕ → Bool
in_ranges s ranges c = every (links_of s) (λ l. in_range ranges l (interval_in s c l))

-- ranges of existing intervals; an empty one may start at the count
pub record Bounded (s : List ℕ) (ranges : Ranges) : Type 0 where
  pub first_most : (l : ℕ) → l < links_of s → get_or ranges.first l 0 ≤ intervals_of s l
  pub last_most : (l : ℕ) → l < links_of s → get_or ranges.last l 0 < intervals_of s l

-- the ranges are those of the intervals that meet the image with the ends low and high
pub record RangesOf (s low high : List ℕ) (ranges : Ranges) : Type 0 where
  pub bounded : Bounded s ranges
  pub meet : (l i : ℕ) → l < links_of s → i < intervals_of s l → meets s l i (get_or low l 0) (get_or high l 0) ≡ in_range ranges l i

-- every interval of the links after k lies in its range: a run of cells takes all of them in
pub record FullAfter (s : List ℕ) (ranges : Ranges) (k : ℕ) : Type 0 where
  pub exists : k < links_of s
  pub from_zero : (l : ℕ) → k < l → l < links_of s → get_or ranges.first l 0 ≡ 0
  pub to_end : (l : ℕ) → k < l → l < links_of s → get_or ranges.last l 0 + 1 ≡ intervals_of s l

-- cell c lies in one of the n runs of that size that start where the list says
abbrev pub InRun : List ℕ → ℕ → ℕ → ℕ → Type 0
InRun starts n size c = (i : ℕ) × (i < n) × (get_or starts i 0 ≤ c) × (c < get_or starts i 0 + size)

-- of how many numbers below n the test holds
abbrev pub how_many : ℕ → (ℕ → Bool) → ℕ
how_many n p = sum_to n (λ c. pick (p c) 1 0)

-- the runs of that size that start at the first n elements of the list, in any order: every cell in the ranges lies in one of them, and they
-- have as many cells as there are in the ranges
pub record RunsOf (s : List ℕ) (ranges : Ranges) (starts : List ℕ) (n size : ℕ) : Type 0 where
  pub most : n ≤ max_cells
  pub fits : (i : ℕ) → i < n → get_or starts i 0 + size ≤ cells_of s
  pub all : (c : ℕ) → c < cells_of s → in_ranges s ranges c ≡ true → InRun starts n size c
  pub number : n * size ≡ how_many (cells_of s) (in_ranges s ranges)
