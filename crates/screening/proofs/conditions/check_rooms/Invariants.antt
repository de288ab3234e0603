-- `screening::conditions::check_rooms` meets its contract.
use Rattle.std.proofs.Common.{◌≡◌}
use Rattle.certificate.specs.Checks.{first_from}
use Rattle.certificate.specs.Layout.{turns_of}
use Rattle.network.specs.Conditions.{room_fault, rooms_fault}
use Rattle.screening.proofs.conditions.check_rooms.Given as goal

abbrev pub invariant-loop-t : goal.invariant-loop-t
invariant-loop-t l = let s = l.certificate.bytes.now in first_from (turns_of s) (room_fault s) l.t ≡ rooms_fault s
