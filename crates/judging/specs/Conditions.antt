-- When a certificate is accepted (document 01), in plain terms, and how many successors are looked up.
use Rattle.std.specs.Prelude.{ℕ, ◌≤◌, ◌<◌, List, true, ◌↔◌, ◌⊎◌, ◌≡◌}
use Rattle.certificate.specs.Loops.{pick, sum_to}
use Rattle.certificate.specs.Layout.{links_of, safe_of, goal_for, cells_of, boxes_of, entries_of, cell_of, mode_of, next_mode_of, rank_of}
use Rattle.network.specs.Network.{entry_limit}
use Rattle.grid.specs.Cells.{upper_of}
use Rattle.grid.specs.Successors.{is_successor}

-- entry e's cell has all upper edges at most safe
abbrev pub SafeCell : List ℕ → ℕ → Type 0
SafeCell s e = (l : ℕ) → l < links_of s → upper_of s (cell_of s e) l ≤ safe_of s l

-- all its upper edges are at most the goal of its mode
abbrev pub GoalCell : List ℕ → ℕ → Type 0
GoalCell s e = (l : ℕ) → l < links_of s → upper_of s (cell_of s e) l ≤ goal_for s (mode_of s e) l

-- its rank is 0 exactly when all its upper edges are at most that goal
abbrev pub RankFits : List ℕ → ℕ → Type 0
RankFits s e = (rank_of s e ≡ 0) ↔ GoalCell s e

-- entry f lists cell d for mode m
pub record Lists (s : List ℕ) (d m f : ℕ) : Type 0 where
  pub exists : f < entries_of s
  pub cell : cell_of s f ≡ d
  pub mode : mode_of s f ≡ m

-- cell d is a successor of entry e's cell under its signal and arrival box b
abbrev pub Follows : List ℕ → ℕ → ℕ → ℕ → Type 0
Follows s e b d = is_successor s (entry_limit s e) b (cell_of s e) d ≡ true

-- cell d is listed with entry e's next mode
abbrev pub ListedNext : List ℕ → ℕ → ℕ → Type 0
ListedNext s e d = (f : ℕ) × Lists s d (next_mode_of s e) f

-- if entry e's rank is above 0, the rank of each entry that lists d with the next mode is lower
abbrev pub LowerNext : List ℕ → ℕ → ℕ → Type 0
LowerNext s e d = (f : ℕ) → Lists s d (next_mode_of s e) f → 0 < rank_of s e → rank_of s f < rank_of s e

-- successor d of entry e is listed and lower
abbrev pub SuccessorHolds : List ℕ → ℕ → ℕ → Type 0
SuccessorHolds s e d = ListedNext s e d × LowerNext s e d

-- all conditions on entry e
pub record EntryHolds (s : List ℕ) (e : ℕ) : Type 0 where
  pub safe : SafeCell s e
  pub rank : RankFits s e
  pub successors : (b d : ℕ) → b < boxes_of s → d < cells_of s → Follows s e b d → SuccessorHolds s e d

-- 1 for a successor looked up, 0 for a cell passed over
abbrev pub looked : List ℕ → ℕ → ℕ → ℕ → ℕ
looked s e b d = pick (is_successor s (entry_limit s e) b (cell_of s e) d) 1 0

-- how many are looked up for entry e under box b before cell d, for entry e before box b, before entry e
abbrev pub looked_cells : List ℕ → ℕ → ℕ → ℕ → ℕ
looked_cells s e b d = sum_to d (looked s e b)

abbrev pub looked_boxes : List ℕ → ℕ → ℕ → ℕ
looked_boxes s e b = sum_to b (λ k. looked_cells s e k (cells_of s))

abbrev pub looked_entries : List ℕ → ℕ → ℕ
looked_entries s e = sum_to e (λ k. looked_boxes s k (boxes_of s))

-- the place (b, d) comes before (k, c): boxes ascending, then cells ascending
abbrev pub PlaceBefore : ℕ → ℕ → ℕ → ℕ → Type 0
PlaceBefore b d k c = (b < k) ⊎ ((b ≡ k) × (d < c))
