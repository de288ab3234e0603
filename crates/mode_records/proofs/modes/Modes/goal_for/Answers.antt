-- `mode_records::modes::Modes::goal_for` meets its contract.
use borrow.Author.Rules.{rules}
use Rattle.mode_records.proofs.ModeFields.{goal_held}
use Rattle.mode_records.proofs.modes.Modes.goal_for.Goals as goal

pub returns : goal.returns
returns c = (search goal_held, search rules)
