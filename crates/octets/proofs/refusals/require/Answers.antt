-- `octets::refusals::require` meets its contract.
use Rattle.std.proofs.Common.{rules}
use Rattle.certificate.specs.Checks.{need}
use Rattle.octets.proofs.refusals.require.Goals as goal

pub returns-then-holds : goal.returns-then-holds
unfolding need
returns-then-holds c = search rules

pub returns-else-holds : goal.returns-else-holds
unfolding need
returns-else-holds c = search rules
