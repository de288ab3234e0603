-- What judging finds out once of a certificate, as tables, and once of an entry: its task, the edges of its cell, its limits, and the ends of its image before arrivals.
use Rattle.std.specs.Prelude.{ℕ, ◌+◌, ◌*◌, ◌/◌, ◌%◌, ◌≤◌, ◌<◌, List, ◌≡◌, eqb, get_or}
use Rattle.certificate.specs.Octets.{u16_at, bit_of}
use Rattle.certificate.specs.Loops.{pick}
use Rattle.certificate.specs.Layout.{max_links, max_modes, max_entries, max_cells, links_of, modes_of, cap_of, flow_of, start_flow_of, cells_of, boxes_of, arrival_at, low_of, high_of, entries_of, cell_of, next_mode_of, rank_of}
use Rattle.network.specs.Network.{network_of, entry_limit}
use Rattle.network.specs.Flow.{gross}
use Rattle.network.specs.Image.{low_corner, high_corner}
use Rattle.grid.specs.Cells.{lower_of, upper_of}
use Rattle.octets.specs.Tables.{Holds}
use Rattle.supply.specs.declared.QueueBox.{QueueBox}
use Rattle.supply.specs.Supply.{at}
use Rattle.images.specs.declared.ends.Ends.{Ends}
use Rattle.images.specs.Ends.{end_bound}

-- ten thousand times the cap of each link
abbrev pub CapsOf : List ℕ → List ℕ → Type 0
CapsOf s a = Holds (links_of s) (λ l. 10000 * cap_of s l) a

-- the table of arrivals has a row for each box: two amounts for each link that there may be
abbrev pub arrival_row : ℕ
arrival_row = 2 * max_links

-- for each link ten thousand times the least and the most that arrives
pub record ArrivalsOf (s a : List ℕ) : Type 0 where
  pub low_is : (b l : ℕ) → b < boxes_of s → l < links_of s → get_or a (arrival_row * b + 2 * l) 0 ≡ 10000 * low_of s b l
  pub high_is : (b l : ℕ) → b < boxes_of s → l < links_of s → get_or a (arrival_row * b + 1 + 2 * l) 0 ≡ 10000 * high_of s b l

-- entry k of that table: one field of one box
unfoldable pub arrival_entry : List ℕ → ℕ → ℕ
arrival_entry s k = 10000 * u16_at s (arrival_at s (k / arrival_row) + (2 + 2 * (k % arrival_row)))

-- the edges of cell c on every link
pub record CellEdges (s : List ℕ) (c : ℕ) (queues : QueueBox) : Type 0 where
  pub lower_is : (l : ℕ) → l < links_of s → at queues.lower l ≡ lower_of s c l
  pub upper_is : (l : ℕ) → l < links_of s → at queues.upper l ≡ upper_of s c l

-- the most that link l may send, by the bytes of the signal shown before and of the one shown (network `limit_of` has the signals)
abbrev pub limit_by : List ℕ → ℕ → ℕ → ℕ → ℕ
limit_by s before byte l = pick (bit_of byte l) (pick (bit_of before l) (flow_of s l) (start_flow_of s l)) 0

-- the most that each link may send under entry e
abbrev pub EntryLimits : List ℕ → ℕ → List ℕ → Type 0
EntryLimits s e limits = Holds (links_of s) (entry_limit s e) limits

-- the ends of the image of entry e's cell under its limits, before arrivals
pub record EntryEnds (s : List ℕ) (e : ℕ) (ends : Ends) : Type 0 where
  pub low_is : (l : ℕ) → l < links_of s
      → at ends.low l ≡ gross (network_of s) (entry_limit s e) 1 (low_corner (network_of s) l (lower_of s (cell_of s e)) (upper_of s (cell_of s e))) (λ _. 0) l
  pub high_is : (l : ℕ) → l < links_of s
      → at ends.high l ≡ gross (network_of s) (entry_limit s e) 1 (high_corner (network_of s) l (lower_of s (cell_of s e)) (upper_of s (cell_of s e))) (λ _. 0) l
  pub low_most : (l : ℕ) → l < links_of s → at ends.low l ≤ end_bound
  pub high_most : (l : ℕ) → l < links_of s → at ends.high l ≤ end_bound

-- the greatest number of 32 bits: nothing in the table of ranks is above it
abbrev pub any_rank : ℕ
any_rank = 4294967295

-- the most that the table of ranks, which has them raised by one, may have for a successor: a lower rank, or any where the rank is 0
unfoldable pub bound_for : ℕ → ℕ
bound_for rank = pick (eqb rank 0) any_rank rank

-- what is found out once of entry e: where its next mode's ranks stand in the table of ranks, its rank, and the most for a successor
pub record IsEntry (s : List ℕ) (e row rank bound : ℕ) : Type 0 where
  pub exists : e < entries_of s
  pub most : e < max_entries
  pub next_exists : next_mode_of s e < modes_of s
  pub row_is : row ≡ next_mode_of s e * cells_of s
  pub row_fits : row + cells_of s ≤ max_modes * max_cells
  pub rank_is : rank ≡ rank_of s e
  pub bound_is : bound ≡ bound_for rank
