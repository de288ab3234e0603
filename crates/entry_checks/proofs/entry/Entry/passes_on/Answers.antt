-- `entry_checks::entry::Entry::passes_on` meets its contract.
use Rattle.entry_checks.proofs.EntryPairs.{passes_free, passes_held}
use Rattle.entry_checks.proofs.entry.Entry.passes_on.Goals as goal

pub returns-then-not-checks : goal.returns-then-not-checks
returns-then-not-checks c = search passes_free

pub returns : goal.returns
returns c = search passes_held
