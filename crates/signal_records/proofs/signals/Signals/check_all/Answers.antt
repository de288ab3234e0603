use native.Mathlib.Omega.{arith}
use Rattle.octets.proofs.Outcomes.{stop, go_on, end}
use Rattle.signal_records.proofs.signals.Signals.check_all.Goals as goal

pub returns-in_err-check : goal.returns-in_err-check
returns-in_err-check c = stop _ _ c.from_residual.ensures.1 _ _ _ _ (omega arith) c.in_err-check.ensures c.loop-g.invariant

pub loop-g-preserved : goal.loop-g-preserved
loop-g-preserved c = go_on _ _ _ _ (omega arith) c.in_ok-check.ensures c.loop-g.invariant

pub returns : goal.returns
returns c = end _ _ _ _ (omega arith) c.loop-g.invariant
