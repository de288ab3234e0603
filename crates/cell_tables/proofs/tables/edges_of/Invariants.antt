-- `cell_tables::tables::edges_of` meets its contract. The loop fills the table entry by entry.
use Rattle.octets.proofs.FilledTables.{Filled}
use Rattle.cell_tables.proofs.Filling.{edge_entry}
use Rattle.cell_tables.proofs.tables.edges_of.Given as goal

abbrev pub invariant-loop-k : goal.invariant-loop-k
invariant-loop-k l = Filled 128 l.k (edge_entry l.certificate.bytes.now) l.edges
