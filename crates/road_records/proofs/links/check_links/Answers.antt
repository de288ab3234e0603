use native.Mathlib.Omega.{arith}
use Rattle.octets.proofs.Outcomes.{stop, go_on, end}
use Rattle.road_records.proofs.links.check_links.Goals as goal

pub returns-in_err-check_link : goal.returns-in_err-check_link
returns-in_err-check_link c = stop _ _ c.from_residual.ensures.1 _ _ _ _ (omega arith) c.in_err-check_link.ensures c.loop-l.invariant

pub loop-l-preserved : goal.loop-l-preserved
loop-l-preserved c = go_on _ _ _ _ (omega arith) c.in_ok-check_link.ensures c.loop-l.invariant

pub returns : goal.returns
returns c = end _ _ _ _ (omega arith) c.loop-l.invariant
