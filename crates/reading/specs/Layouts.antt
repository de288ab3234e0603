-- Where the records of a certificate stand, and how many there are.
use Rattle.std.specs.Prelude.{ℕ, ◌≤◌, ◌<◌, List, ◌≡◌, get_or, ltb}
use Rattle.reading.specs.declared.Layout.{Layout}
use Rattle.certificate.specs.Loops.{pick}
use Rattle.certificate.specs.Layout.{max_links, max_turns, max_signals, max_modes, max_boxes, max_entries, max_cells, links_of, turns_of, signals_of, modes_of, boxes_of, entries_of, turns_start, signals_start, modes_start, mode_size, grid_at, cells_of, arrivals_start, entries_start}
use Rattle.octets.specs.Tables.{table_of}
use Rattle.octets.specs.Bounds.{start_bound}
use Rattle.mode_records.specs.Placed.{size_bound}

-- where the grid record of link l stands, and 0 where there is no such link
abbrev pub grid_place : List ℕ → ℕ → ℕ
grid_place s l = pick (ltb l (links_of s)) (grid_at s l) 0

-- the layout of a certificate
abbrev pub layout_of : List ℕ → Layout
layout_of s =
    record {
      links = links_of s;
      turns = turns_of s;
      signals = signals_of s;
      modes = modes_of s;
      boxes = boxes_of s;
      entries = entries_of s;
      turns_start = turns_start s;
      signals_start = signals_start s;
      modes_start = modes_start s;
      mode_size = mode_size s;
      grids = table_of max_links (grid_place s);
      arrivals_start = arrivals_start s;
      entries_start = entries_start s;
      cells = cells_of s;
    }

-- a layout is that of s, field by field, within the limits of the format
pub record LaidOut (s : List ℕ) (layout : Layout) : Type 0 where
  pub is : layout ≡ layout_of s
  pub links_are : layout.links ≡ links_of s
  pub links_least : 1 ≤ layout.links
  pub links_most : layout.links ≤ max_links
  pub turns_are : layout.turns ≡ turns_of s
  pub turns_most : layout.turns ≤ max_turns
  pub signals_are : layout.signals ≡ signals_of s
  pub signals_least : 1 ≤ layout.signals
  pub signals_most : layout.signals ≤ max_signals
  pub modes_are : layout.modes ≡ modes_of s
  pub modes_least : 1 ≤ layout.modes
  pub modes_most : layout.modes ≤ max_modes
  pub boxes_are : layout.boxes ≡ boxes_of s
  pub boxes_least : 1 ≤ layout.boxes
  pub boxes_most : layout.boxes ≤ max_boxes
  pub entries_are : layout.entries ≡ entries_of s
  pub entries_least : 1 ≤ layout.entries
  pub entries_most : layout.entries ≤ max_entries
  pub turns_start_is : layout.turns_start ≡ turns_start s
  pub turns_start_most : layout.turns_start ≤ start_bound
  pub signals_start_is : layout.signals_start ≡ signals_start s
  pub signals_start_most : layout.signals_start ≤ start_bound
  pub modes_start_is : layout.modes_start ≡ modes_start s
  pub modes_start_most : layout.modes_start ≤ start_bound
  pub mode_size_is : layout.mode_size ≡ mode_size s
  pub mode_size_most : layout.mode_size ≤ size_bound
  pub grid_is : (l : ℕ) → l < links_of s → get_or layout.grids l 0 ≡ grid_at s l
  pub grid_most : (l : ℕ) → l < links_of s → grid_at s l ≤ start_bound
  pub arrivals_start_is : layout.arrivals_start ≡ arrivals_start s
  pub arrivals_start_most : layout.arrivals_start ≤ start_bound
  pub entries_start_is : layout.entries_start ≡ entries_start s
  pub entries_start_most : layout.entries_start ≤ start_bound
  pub cells_are : layout.cells ≡ cells_of s
  pub cells_least : 1 ≤ layout.cells
  pub cells_most : layout.cells ≤ max_cells
