-- `mode_records::modes::Modes::goal_number` meets its contract.
use borrow.Author.Rules.{rules}
use Rattle.mode_records.proofs.ModeFields.{number_held}
use Rattle.mode_records.proofs.modes.Modes.goal_number.Goals as goal

pub returns : goal.returns
returns c = (search number_held, search rules)
