-- `signal_records::signals::Signals::check_all` meets its contract.
use Prim.Native.Nat.{◌-◌}
use mathlib.Core.Path.{◌≡◌}
use Rattle.certificate.specs.Checks.{first_from}
use Rattle.certificate.specs.Records.{signal_fault}
use Rattle.signal_records.proofs.signals.Signals.check_all.Given as goal

abbrev pub invariant-loop-g : goal.invariant-loop-g
invariant-loop-g l = first_from l.count (signal_fault l.self.bytes.now) l.g ≡ first_from l.count (signal_fault l.self.bytes.now) 0

abbrev pub decreases-loop-g : goal.decreases-loop-g
decreases-loop-g l = l.count - l.g
