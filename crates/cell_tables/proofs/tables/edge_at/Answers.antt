-- `cell_tables::tables::edge_at` meets its contract.
use Rattle.cell_tables.specs.Tables.{edge_of}
use Rattle.cell_tables.proofs.Filling.{edge_cut, edge_cap}
use Rattle.cell_tables.proofs.tables.edge_at.Goals as goal

pub returns-then-i-eq0 : goal.returns-then-i-eq0
unfolding edge_of
returns-then-i-eq0 c = rw c.if-i-eq0.true

pub returns-then-i-intervals_of : goal.returns-then-i-intervals_of
returns-then-i-intervals_of c = search edge_cut

pub returns : goal.returns
returns c = search edge_cap
