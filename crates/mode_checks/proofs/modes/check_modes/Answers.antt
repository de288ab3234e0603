use Rattle.std.proofs.Common.{arith, refl}
use Rattle.certificate.specs.Reading.{modes_fault}
use Rattle.octets.proofs.Outcomes.{go_on, stop, end}
use Rattle.mode_checks.proofs.ModeTests.{recorded}
use Rattle.mode_checks.proofs.modes.check_modes.Goals as goal

pub loop-m-init : goal.loop-m-init
unfolding modes_fault
loop-m-init c = refl

pub check_mode-requires : goal.check_mode-requires
check_mode-requires c = (omega (arith, c.loop-m-test.true, c.records-m-end.ensures.2), recorded _ c.loop-m.m (omega (arith, c.loop-m-test.true, c.records-m-end.ensures.0)))

pub returns-in_err-check_mode : goal.returns-in_err-check_mode
returns-in_err-check_mode c = stop _ _ c.from_residual.ensures.1 _ _ _ _ (omega (arith, c.loop-m-test.true, c.records-m-end.ensures.0)) c.in_err-check_mode.ensures c.loop-m.invariant

pub loop-m-preserved : goal.loop-m-preserved
loop-m-preserved c = go_on _ _ _ _ (omega (arith, c.loop-m-test.true, c.records-m-end.ensures.0)) c.in_ok-check_mode.ensures c.loop-m.invariant

pub returns : goal.returns
returns c = end _ _ _ _ (omega (arith, c.loop-m-test.false, c.records-m-end.ensures.0)) c.loop-m.invariant
