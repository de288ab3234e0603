-- `mode_checks::goals::goals_ok` meets its contract.
use Rattle.certificate.specs.Octets.{◌also◌}
use Rattle.certificate.specs.Records.{goals_ok}
use Rattle.mode_checks.proofs.goals.goals_ok.Goals as goal

pub returns : goal.returns
unfolding goals_ok ◌also◌
returns c =
    rw (c.no_gap.ensures, c.modes_of.ensures.0, c.goals_agree.ensures, c.goals_safe.ensures, c.goal_number.ensures.0)
