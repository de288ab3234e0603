-- `screening::conditions::check_pulls` meets its contract.
use Rattle.std.proofs.Common.{◌≡◌}
use Rattle.certificate.specs.Checks.{first_from}
use Rattle.certificate.specs.Layout.{signals_of}
use Rattle.network.specs.Conditions.{signal_pulls_fault, pulls_fault}
use Rattle.screening.proofs.conditions.check_pulls.Given as goal

abbrev pub invariant-loop-g : goal.invariant-loop-g
invariant-loop-g l = let s = l.certificate.bytes.now in first_from (signals_of s) (signal_pulls_fault s) l.g ≡ pulls_fault s
