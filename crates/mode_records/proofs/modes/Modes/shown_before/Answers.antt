-- `mode_records::modes::Modes::shown_before` meets its contract.
use borrow.Author.Rules.{rules}
use Rattle.mode_records.proofs.ModeFields.{shown_held}
use Rattle.mode_records.proofs.modes.Modes.shown_before.Goals as goal

pub returns : goal.returns
returns c = (search shown_held, search rules)
