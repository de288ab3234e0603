use native.Mathlib.Omega.{arith}
use Rattle.octets.proofs.FilledTables.{filled_more}
use Rattle.rank_tables.proofs.Finding.{from_grows}
use Rattle.rank_tables.proofs.index.index_of.Goals as goal

pub loop-d-preserved : goal.loop-d-preserved
loop-d-preserved c =
    let here = c.first_from-e.ensures.0 in
    (rw here (from_grows _ _), filled_more 4097 _ _ _ _ c.loop-d.invariant.1 (omega arith) here)
