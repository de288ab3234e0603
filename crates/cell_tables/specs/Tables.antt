-- Tables made once for a certificate: the edges and counts of its grids, the intervals of each cell.
use Rattle.std.specs.Prelude.{ℕ, zero, suc, ◌+◌, ◌*◌, ◌≤◌, ◌<◌, List, ◌≡◌, get_or}
use Rattle.certificate.specs.Layout.{max_intervals, max_links, links_of, cap_of, intervals_of, cells_of}
use Rattle.grid.specs.Intervals.{lower_edge, upper_edge}
use Rattle.grid.specs.Cells.{interval_in}
use Rattle.octets.specs.Tables.{Holds}

-- how many intervals each link has
abbrev pub CountsOf : List ℕ → List ℕ → Type 0
CountsOf s a = Holds (links_of s) (intervals_of s) a

-- the edges of a link: one more than its intervals; the table has a row of them for each link
abbrev pub edge_row : ℕ
edge_row = max_intervals + 1

-- edge i of link l: 0, the cuts, and cap
unfoldable pub edge_of : List ℕ → ℕ → ℕ → ℕ
edge_of s l zero = 0
edge_of s l (suc i) = upper_edge s l i

-- sixteen edges a link: interval i lies between edges i and i + 1
pub record EdgesOf (s a : List ℕ) : Type 0 where
  pub lower : (l i : ℕ) → l < links_of s → i < intervals_of s l → get_or a (edge_row * l + i) 0 ≡ lower_edge s l i
  pub upper : (l i : ℕ) → l < links_of s → i < intervals_of s l → get_or a (edge_row * l + i + 1) 0 ≡ upper_edge s l i

-- the interval of each link in each cell, eight a cell
abbrev pub DigitsOf : List ℕ → List ℕ → Type 0
DigitsOf s a = (c l : ℕ) → c < cells_of s → l < links_of s → get_or a (max_links * c + l) 0 ≡ interval_in s c l

-- each queue of the table x, over scale D, is at most cap
abbrev pub QueuesFit : List ℕ → ℕ → List ℕ → Type 0
QueuesFit s D x = (l : ℕ) → l < links_of s → get_or x l 0 ≤ D * cap_of s l
