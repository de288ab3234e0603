-- `screening::conditions::room_ok` meets its contract.
use Rattle.network.specs.Conditions.{room_ok}
use Rattle.reading.proofs.Whole.{reads}
use Rattle.screening.proofs.conditions.room_ok.Goals as goal

pub overflow_sub-room : goal.overflow_sub-room
overflow_sub-room c = rw (c.flow_of.ensures.0, c.cap_of.ensures.0) (((reads c.args.certificate.now).link _ c.to_of-to.ensures.1).flow_most)

pub returns : goal.returns
unfolding room_ok
returns c = cc
