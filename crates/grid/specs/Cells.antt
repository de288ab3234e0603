-- Cells. A cell takes one interval of each link; its number counts the last link fastest.
use Rattle.std.specs.Prelude.{ℕ, zero, suc, ◌+◌, ◌*◌, ◌-◌, ◌/◌, ◌%◌, ◌<◌, List}
use Rattle.certificate.specs.Layout.{links_of, intervals_of, cells_of}
use Rattle.grid.specs.Intervals.{lower_edge, upper_edge, InInterval, interval_at}

-- the number of the choice of intervals i for the links before l, built link by link
unfoldable pub number_of : List ℕ → (ℕ → ℕ) → ℕ → ℕ
number_of s i zero = 0
number_of s i (suc l) = number_of s i l * intervals_of s l + i l

-- what is left of the cell number c when the intervals of the last k links are taken off
unfoldable pub prefix_of : List ℕ → ℕ → ℕ → ℕ
prefix_of s c zero = c
prefix_of s c (suc k) = prefix_of s c k / intervals_of s (links_of s - suc k)

-- the interval of link l in cell c
unfoldable pub interval_in : List ℕ → ℕ → ℕ → ℕ
interval_in s c l = prefix_of s c (links_of s - suc l) % intervals_of s l

-- the edges of cell c on link l
abbrev pub lower_of : List ℕ → ℕ → ℕ → ℕ
lower_of s c l = lower_edge s l (interval_in s c l)

abbrev pub upper_of : List ℕ → ℕ → ℕ → ℕ
upper_of s c l = upper_edge s l (interval_in s c l)

-- cell c is the queues' cell: its intervals hold every queue x over scale D
pub record InCell (s : List ℕ) (c D : ℕ) (x : ℕ → ℕ) : Type 0 where
  pub exists : c < cells_of s
  pub holds : (l : ℕ) → l < links_of s → InInterval s l (interval_in s c l) D (x l)

-- the number of the queues' cell, for queues at most cap
unfoldable pub cell_at : List ℕ → ℕ → (ℕ → ℕ) → ℕ
cell_at s D x = number_of s (λ l. interval_at s l D (x l)) (links_of s)
