-- The index by cell and the table of ranks, by which the code looks entries up.
use Rattle.std.specs.Prelude.{ℕ, ◌+◌, ◌*◌, ◌≤◌, ◌<◌, List, ◌≡◌, leb, get_or}
use Rattle.certificate.specs.Loops.{pick, find}
use Rattle.certificate.specs.Layout.{modes_of, entries_of, cells_of, cell_of, rank_of}
use Rattle.judging.specs.Lookup.{entry_for, is_listed}

-- the first entry at or above cell c, and the number of entries where there is none: the index by cell
unfoldable pub entry_from : List ℕ → ℕ → ℕ
entry_from s c = find (entries_of s) (λ e. leb c (cell_of s e))

-- a table of first entries: element d is the first entry at or above cell d, for every cell and the end
abbrev pub IsIndex : List ℕ → List ℕ → Type 0
IsIndex s index = (d : ℕ) → d ≤ cells_of s → get_or index d 0 ≡ entry_from s d

-- the cells of the entries ascend: those of one cell stand one after another
abbrev pub CellsAscend : List ℕ → Type 0
CellsAscend s = (e f : ℕ) → e ≤ f → f < entries_of s → cell_of s e ≤ cell_of s f

-- the rank of the entry of cell d and mode m, raised by one; 0 where the pair is not listed
unfoldable pub rank_at : List ℕ → ℕ → ℕ → ℕ
rank_at s d m = pick (is_listed s d m) (rank_of s (entry_for s d m) + 1) 0

-- a table of these, the cells of one mode after those of the mode before it
abbrev pub RanksOf : List ℕ → List ℕ → Type 0
RanksOf s a = (m d : ℕ) → m < modes_of s → d < cells_of s → get_or a (m * cells_of s + d) 0 ≡ rank_at s d m

-- the entries of cell d stand from first to before end
abbrev pub CellFrom : List ℕ → ℕ → ℕ → ℕ → Type 0
CellFrom s d first end = (first ≡ entry_from s d) × (end ≡ entry_from s (d + 1))
