-- What the standing of an entry goes by.
use Rattle.std.specs.Prelude.{ℕ, ◌+◌, ◌*◌, ◌≤◌, ◌<◌, List, ◌≡◌, get_or}
use Rattle.certificate.specs.Layout.{links_of, goal_for, cell_of, mode_of}
use Rattle.certificate.specs.Octets.{u16_at}
use Rattle.grid.specs.Cells.{upper_of}
use Rattle.entry_standing.specs.declared.GoalRow.{GoalRow}

-- a table of the upper edges of entry e's cell, one a link
abbrev pub UpperEdges : List ℕ → ℕ → List ℕ → Type 0
UpperEdges s e upper = (l : ℕ) → l < links_of s → get_or upper l 0 ≡ upper_of s (cell_of s e) l

-- the goals of entry e's mode stand in that row
pub record GoalsIn (s : List ℕ) (e : ℕ) (row : GoalRow) : Type 0 where
  pub first_most : row.first ≤ 300010
  pub apart_most : row.apart ≤ 14
  pub goal_is : (l : ℕ) → u16_at s (row.first + row.apart * l) ≡ goal_for s (mode_of s e) l
