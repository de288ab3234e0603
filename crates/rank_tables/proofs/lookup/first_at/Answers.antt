use native.Mathlib.Omega.{arith}
use Rattle.rank_tables.proofs.Finding.{ascends, from_most}
use Rattle.rank_tables.proofs.Bisecting.{not_later, later}
use Rattle.rank_tables.proofs.lookup.first_at.Goals as goal

pub loop-low-init : goal.loop-low-init
loop-low-init c = (omega arith, omega (arith, from_most c.args.certificate.now.bytes.now c.args.d), omega arith)

pub loop-low-preserved-then-d-cell_of : goal.loop-low-preserved-then-d-cell_of
loop-low-preserved-then-d-cell_of c = (omega arith, not_later _ _ _ (omega arith), omega arith)

pub loop-low-preserved : goal.loop-low-preserved
loop-low-preserved c = (later _ _ _ (ascends c.args.certificate.now) (omega arith) (omega arith), omega arith, omega arith)
