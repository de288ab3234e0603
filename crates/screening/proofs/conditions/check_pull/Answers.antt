-- `screening::conditions::check_pull` meets its contract.
use Rattle.std.proofs.Common.{rules}
use Rattle.certificate.specs.Checks.{need}
use Rattle.screening.proofs.conditions.check_pull.Goals as goal

pub returns-then-sum-le-MAX_PULL_SUM : goal.returns-then-sum-le-MAX_PULL_SUM
unfolding need
returns-then-sum-le-MAX_PULL_SUM c = search rules

pub returns-else-sum-le-MAX_PULL_SUM : goal.returns-else-sum-le-MAX_PULL_SUM
unfolding need
returns-else-sum-le-MAX_PULL_SUM c = search rules
