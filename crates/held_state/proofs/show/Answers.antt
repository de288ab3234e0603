-- `held_state::show` meets its contract.
use Rattle.held_state.proofs.Showing.{found_shown, refused_shown}
use Rattle.held_state.proofs.show.Goals as goal

pub returns-in-Ok : goal.returns-in-Ok
returns-in-Ok c = found_shown _ _ _ c.in-Ok.found _ c.in-Ok.is c.accept.ensures c.pass.ensures

pub returns-in-Err : goal.returns-in-Err
returns-in-Err c = refused_shown _ _ c.in-Err.refused _ c.in-Err.is c.into.ensures
