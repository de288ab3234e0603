-- `entry_setup::entry::cell_edges` meets its contract.
use Rattle.grid.specs.Cells.{lower_of, upper_of}
use Rattle.octets.proofs.FilledTables.{Filled}
use Rattle.entry_setup.proofs.entry.cell_edges.Given as goal

abbrev pub invariant-loop-l : goal.invariant-loop-l
invariant-loop-l l = let s = l.tables.certificate.now.bytes.now in
    Filled 8 l.l (lower_of s l.cell) l.queues.lower × Filled 8 l.l (upper_of s l.cell) l.queues.upper
