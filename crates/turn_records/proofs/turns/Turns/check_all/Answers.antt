use Rattle.std.proofs.Common.{refl, arith}
use Rattle.octets.proofs.Outcomes.{stop, go_on, end}
use Rattle.turn_records.proofs.TurnTotals.{shares_none}
use Rattle.turn_records.proofs.turns.Turns.check_all.Goals as goal

pub loop-t-init : goal.loop-t-init
loop-t-init c = (refl, shares_none _)

pub returns-in_err-total : goal.returns-in_err-total
returns-in_err-total c = stop _ _ c.from_residual.ensures.1 _ _ _ _ (omega arith) c.in_err-total.ensures.0 c.loop-t.invariant.0

pub loop-t-preserved : goal.loop-t-preserved
loop-t-preserved c = (go_on _ _ _ _ (omega arith) c.in_ok-total.ensures.0 c.loop-t.invariant.0, c.in_ok-total.ensures.1)

pub returns : goal.returns
returns c = end _ _ _ _ (omega arith) c.loop-t.invariant.0
