-- `controller::Controller::holding` meets its contract.
use Rattle.std.proofs.lemmas.List.{drop-replicate}
use Rattle.controller.proofs.Controller.holding.Goals as goal

pub returns : goal.returns
returns c = rw (c.copy_from_slice.ensures.after, drop-replicate)
