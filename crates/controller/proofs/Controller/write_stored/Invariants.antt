-- `controller::Controller::write_stored` meets its contract.
use Rattle.controller.proofs.Copying.{Copied}
use Rattle.controller.proofs.Controller.write_stored.Given as goal

abbrev pub invariant-loop-i : goal.invariant-loop-i
invariant-loop-i l = Copied l.certificate.bytes.now l.initial.byte-items l.i l.byte-items
