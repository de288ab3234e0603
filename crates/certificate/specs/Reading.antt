-- Reading goes record by record, each kind in its turn.
use Rattle.std.specs.Prelude.{ℕ, List}
use Rattle.certificate.specs.declared.Report.{Report}
use Rattle.certificate.specs.Checks.{or_else, first_bad}
use Rattle.certificate.specs.Layout.{links_of, turns_of, signals_of, mode_records_of, boxes_of, entries_of}
use Rattle.certificate.specs.Records.{header_fault, link_fault, turn_fault, signal_fault, mode_fault, grid_fault, arrival_fault, entry_fault, end_fault}

unfoldable pub links_fault : List ℕ → Report
links_fault s = first_bad (links_of s) (link_fault s)

unfoldable pub turns_fault : List ℕ → Report
turns_fault s = first_bad (turns_of s) (turn_fault s)

unfoldable pub signals_fault : List ℕ → Report
signals_fault s = first_bad (signals_of s) (signal_fault s)

unfoldable pub modes_fault : List ℕ → Report
modes_fault s = first_bad (mode_records_of s) (mode_fault s)

unfoldable pub grids_fault : List ℕ → Report
grids_fault s = first_bad (links_of s) (grid_fault s)

unfoldable pub arrivals_fault : List ℕ → Report
arrivals_fault s = first_bad (boxes_of s) (arrival_fault s)

unfoldable pub entries_fault : List ℕ → Report
entries_fault s = first_bad (entries_of s) (entry_fault s)

-- refusals 1 to 9, 22, 23 and 24, or fine for a readable certificate
unfoldable pub reading_of : List ℕ → Report
reading_of s =
    or_else (header_fault s)
    (or_else (links_fault s)
    (or_else (turns_fault s)
    (or_else (signals_fault s)
    (or_else (modes_fault s)
    (or_else (grids_fault s)
    (or_else (arrivals_fault s)
    (or_else (entries_fault s)
    (end_fault s))))))))
