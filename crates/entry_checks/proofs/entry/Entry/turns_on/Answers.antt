-- `entry_checks::entry::Entry::turns_on` meets its contract.
use Rattle.entry_checks.proofs.EntryPairs.{turns_free, turns_held}
use Rattle.entry_checks.proofs.entry.Entry.turns_on.Goals as goal

pub returns-then-not-checks : goal.returns-then-not-checks
returns-then-not-checks c = search turns_free

pub returns : goal.returns
returns c = search turns_held
