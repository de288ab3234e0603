use native.Mathlib.Omega.{arith}
use Rattle.rank_tables.proofs.Finding.{from_here, from_beyond, from_nowhere, from_most}
use Rattle.rank_tables.proofs.index.first_from.Goals as goal

pub returns-then-d-cell_of : goal.returns-then-d-cell_of
returns-then-d-cell_of c = (from_here _ _ _ (omega arith) (omega arith), omega arith)

pub loop-f-preserved : goal.loop-f-preserved
loop-f-preserved c = from_beyond _ _ _ (omega arith) (omega arith) (omega arith)

pub returns : goal.returns
returns c = (from_nowhere _ _ _ (omega (arith, from_most c.args.entries.now.bytes.now c.args.d)) (omega arith), omega arith)
