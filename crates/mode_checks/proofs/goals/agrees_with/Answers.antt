-- `mode_checks::goals::agrees_with` meets its contract.
use Rattle.mode_checks.proofs.goals.agrees_with.Goals as goal

pub returns : goal.returns
returns c = rw (c.goal_number.ensures.0, c.goal_number-2.ensures.0, c.same_goals.ensures)
