use Rattle.std.proofs.Common.{arith, refl}
use Rattle.octets.proofs.Outcomes.{go_on, stop, end}
use Rattle.network.specs.Conditions.{pulls_fault}
use Rattle.screening.proofs.conditions.check_pulls.Goals as goal

pub loop-g-init : goal.loop-g-init
unfolding pulls_fault
loop-g-init c = refl

pub returns-in_err-check_signal : goal.returns-in_err-check_signal
returns-in_err-check_signal c = stop _ _ c.from_residual.ensures.1 _ _ _ _ (omega (arith, c.args.certificate.now.laid.signals_are)) c.in_err-check_signal.ensures c.loop-g.invariant

pub loop-g-preserved : goal.loop-g-preserved
loop-g-preserved c = go_on _ _ _ _ (omega (arith, c.args.certificate.now.laid.signals_are)) c.in_ok-check_signal.ensures c.loop-g.invariant

pub returns : goal.returns
returns c = end _ _ _ _ (omega (arith, c.args.certificate.now.laid.signals_are)) c.loop-g.invariant
