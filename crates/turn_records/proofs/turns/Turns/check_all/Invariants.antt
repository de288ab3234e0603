-- `turn_records::turns::Turns::check_all` meets its contract.
use Prim.Native.Nat.{◌-◌}
use mathlib.Core.Path.{◌≡◌}
use Rattle.certificate.specs.Checks.{first_from}
use Rattle.certificate.specs.Records.{turn_fault}
use Rattle.turn_records.specs.ShareTotals.{SharesBefore}
use Rattle.turn_records.proofs.turns.Turns.check_all.Given as goal

abbrev pub invariant-loop-t : goal.invariant-loop-t
invariant-loop-t l = (first_from l.count (turn_fault l.self.bytes.now) l.t ≡ first_from l.count (turn_fault l.self.bytes.now) 0) × SharesBefore l.self.bytes.now l.t l.total

abbrev pub decreases-loop-t : goal.decreases-loop-t
decreases-loop-t l = l.count - l.t
