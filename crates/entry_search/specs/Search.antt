-- What judging finds out once of an entry under an arrival box, and the parts of judging that single functions answer for.
use Rattle.std.specs.Prelude.{ℕ, ◌+◌, ◌*◌, ◌≤◌, ◌<◌, List, Bool, false, ◌≡◌, eqb, length, get_or}
use Rattle.certificate.specs.declared.Report.{Report}
use Rattle.certificate.specs.Loops.{sum_to, loop_from}
use Rattle.certificate.specs.Layout.{max_cells, links_of, boxes_of, cell_of}
use Rattle.network.specs.Network.{entry_limit}
use Rattle.grid.specs.Successors.{image_low, image_high, image_over}
use Rattle.grid.specs.Laws.{ImageOf}
use Rattle.octets.specs.Tables.{Holds}
use Rattle.images.specs.declared.ends.Ends.{Ends}
use Rattle.successors.specs.declared.ranges.Ranges.{Ranges}
use Rattle.successors.specs.Ranges.{Bounded, in_ranges, how_many}
use Rattle.judging.specs.EntryTests.{follows, successor_fault, box_round, accepted}

-- the image of entry e's cell under its signal and box b: its ends, over says which links exceed cap where they are not cut, and it is the
-- smallest box (grid `ImageOf`)
pub record EntryImage (s : List ℕ) (e b : ℕ) (ends : Ends) (over : List Bool) : Type 0 where
  pub low_is : Holds (links_of s) (image_low s (entry_limit s e) b (cell_of s e)) ends.low
  pub high_is : Holds (links_of s) (image_high s (entry_limit s e) b (cell_of s e)) ends.high
  pub over_is : (l : ℕ) → l < links_of s → get_or over l false ≡ image_over s (entry_limit s e) b (cell_of s e) l
  pub smallest : ImageOf s (entry_limit s e) b (cell_of s e)

-- the successors of entry e under box b are the cells in the ranges
pub record BoxRanges (s : List ℕ) (e b : ℕ) (ranges : Ranges) : Type 0 where
  pub bounded : Bounded s ranges
  pub same : (c : ℕ) → follows s e b c ≡ in_ranges s ranges c

-- what the search for entry e finds from box b on, where n successors were looked up before: its first refusal, or accepted
unfoldable pub boxes_from : List ℕ → ℕ → ℕ → ℕ → Report
boxes_from s e b n = loop_from (box_round s e) accepted (boxes_of s) b n

-- what it finds in box b alone
unfoldable pub box_alone : List ℕ → ℕ → ℕ → ℕ → Report
box_alone s e b n = box_round s e b n accepted

-- successor d of entry e is listed with the next mode and its rank is lower
unfoldable pub passes : List ℕ → ℕ → ℕ → Bool
passes s e d = eqb (successor_fault s e d 0).number 0

-- how many cells of a run pass for entry e: it starts at cell c
abbrev pub run_passing : List ℕ → ℕ → ℕ → ℕ → ℕ
run_passing s e c size = how_many size (λ j. passes s e (c + j))

-- how many of the runs, which start where the list says, have a cell number j that passes
abbrev pub column_passing : List ℕ → ℕ → List ℕ → ℕ → ℕ
column_passing s e runs j = how_many (length runs) (λ i. passes s e (get_or runs i 0 + j))

-- how many of all their cells pass
abbrev pub runs_passing : List ℕ → ℕ → List ℕ → ℕ → ℕ
runs_passing s e runs size = sum_to (length runs) (λ i. run_passing s e (get_or runs i 0) size)

-- the runs of that size that start where the list says lie in so many cells
pub record RunsFit (runs : List ℕ) (size cells : ℕ) : Type 0 where
  pub list_most : length runs ≤ max_cells
  pub most : length runs * size ≤ max_cells
  pub fits : (i : ℕ) → i < length runs → get_or runs i 0 + size ≤ cells
