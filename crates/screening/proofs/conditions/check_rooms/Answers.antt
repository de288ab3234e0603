use Rattle.std.proofs.Common.{arith, refl}
use Rattle.octets.proofs.Outcomes.{go_on, stop, end}
use Rattle.network.specs.Conditions.{room_fault, rooms_fault}
use Rattle.screening.proofs.conditions.check_rooms.Goals as goal

pub loop-t-init : goal.loop-t-init
unfolding rooms_fault
loop-t-init c = refl

pub returns-in_err-require : goal.returns-in_err-require
unfolding room_fault
returns-in_err-require c = stop _ _ c.from_residual.ensures.1 _ _ _ _ (omega (arith, c.args.certificate.now.laid.turns_are)) (rw (← c.room_ok.ensures) c.in_err-require.ensures) c.loop-t.invariant

pub loop-t-preserved : goal.loop-t-preserved
unfolding room_fault
loop-t-preserved c = go_on _ _ _ _ (omega (arith, c.args.certificate.now.laid.turns_are)) (rw (← c.room_ok.ensures) c.in_ok-require.ensures) c.loop-t.invariant

pub returns : goal.returns
returns c = end _ _ _ _ (omega (arith, c.args.certificate.now.laid.turns_are)) c.loop-t.invariant
