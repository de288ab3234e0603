-- `controller::Controller::load` meets its contract.
use Rattle.controller.proofs.Loads.{load_refuses, load_fits, load_accepts}
use Rattle.controller.proofs.Controller.load.Goals as goal

pub holding-requires : goal.holding-requires
holding-requires c = load_fits _ _ c.in-Ok.ensures.told

pub returns-in-Ok : goal.returns-in-Ok
returns-in-Ok c = rw (c.into.ensures, c.holding.ensures) (load_accepts _ _ c.in-Ok.ensures.told _ _ c.in-Ok.ensures.overflows)

pub returns-in-Err : goal.returns-in-Err
returns-in-Err c = rw c.into-in-Err.ensures (load_refuses _ _ c.in-Err.refused _ c.in-Err.ensures.told c.in-Err.ensures.overflows)
