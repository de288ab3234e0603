use Rattle.std.proofs.Common.{◌*◌, arith}
use Rattle.octets.proofs.FilledTables.{filled_more}
use Rattle.reading.proofs.Whole.{reads}
use Rattle.cell_tables.proofs.Filling.{edge_entry, edges_filled}
use Rattle.cell_tables.proofs.tables.edges_of.Goals as goal

pub loop-k-preserved : goal.loop-k-preserved
unfolding edge_entry
loop-k-preserved c = filled_more 128 _ _ c.loop-k.edges _ c.loop-k.invariant (omega arith) c.edge_at.ensures

pub returns : goal.returns
returns c = let w = c.args.certificate.now in
    edges_filled w.bytes.now (reads w) _ (16 * w.layout.links) (omega (arith, w.laid.links_are)) (λ k lt. c.loop-k.invariant.1 k (omega arith))
