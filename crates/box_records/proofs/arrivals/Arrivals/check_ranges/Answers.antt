use Rattle.std.proofs.Common.{arith}
use Rattle.octets.proofs.Outcomes.{stop, go_on, end}
use Rattle.box_records.proofs.arrivals.Arrivals.check_ranges.Goals as goal

pub returns-in_err-check_range : goal.returns-in_err-check_range
returns-in_err-check_range c = stop _ _ c.from_residual.ensures.1 _ _ _ _ (omega arith) c.in_err-check_range.ensures c.loop-l.invariant

pub loop-l-preserved : goal.loop-l-preserved
loop-l-preserved c = go_on _ _ _ _ (omega arith) c.in_ok-check_range.ensures c.loop-l.invariant

pub returns : goal.returns
returns c = end _ _ _ _ (omega arith) c.loop-l.invariant
