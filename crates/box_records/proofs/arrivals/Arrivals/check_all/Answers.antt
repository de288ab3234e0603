use Rattle.std.proofs.Common.{arith}
use Rattle.octets.proofs.Outcomes.{stop, go_on, end}
use Rattle.box_records.proofs.arrivals.Arrivals.check_all.Goals as goal

pub returns-in_err-check_box : goal.returns-in_err-check_box
returns-in_err-check_box c = stop _ _ c.from_residual.ensures.1 _ _ _ _ (omega arith) c.in_err-check_box.ensures c.loop-b.invariant

pub loop-b-preserved : goal.loop-b-preserved
loop-b-preserved c = go_on _ _ _ _ (omega arith) c.in_ok-check_box.ensures c.loop-b.invariant

pub returns : goal.returns
returns c = end _ _ _ _ (omega arith) c.loop-b.invariant
