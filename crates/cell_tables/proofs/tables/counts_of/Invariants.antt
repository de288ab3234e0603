-- `cell_tables::tables::counts_of` meets its contract. The loop fills the table entry by entry.
use Rattle.certificate.specs.Layout.{intervals_of}
use Rattle.octets.proofs.FilledTables.{Filled}
use Rattle.cell_tables.proofs.tables.counts_of.Given as goal

abbrev pub invariant-loop-l : goal.invariant-loop-l
invariant-loop-l l = Filled 8 l.l (intervals_of l.certificate.bytes.now) l.counts
