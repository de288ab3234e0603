-- `screening::conditions::check_signal` meets its contract.
use Rattle.std.proofs.Common.{◌≡◌}
use Rattle.certificate.specs.Checks.{first_from}
use Rattle.certificate.specs.Layout.{links_of}
use Rattle.network.specs.Conditions.{pull_fault, signal_pulls_fault}
use Rattle.screening.proofs.conditions.check_signal.Given as goal

abbrev pub invariant-loop-l : goal.invariant-loop-l
invariant-loop-l l = let s = l.certificate.bytes.now in first_from (links_of s) (pull_fault s l.g) l.l ≡ signal_pulls_fault s l.g
