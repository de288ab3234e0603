-- `entry_checks::EntryChecks::quick` meets its contract.
use native.Mathlib.Omega.{arith}
use Rattle.entry_checks.proofs.EntryPairs.{entry_ordered, key_next, key_ascends}
use Rattle.entry_checks.proofs.EntryChecks.quick.Goals as goal

pub returns-then-marked_within-names_exist : goal.returns-then-marked_within-names_exist
returns-then-marked_within-names_exist c =
    let key = c.key-key.ensures in
    (entry_ordered _ _ c.record_at-at.ensures.0 (omega arith) c.marked_within.ensures c.names_exist.ensures (key_ascends _ _ key c.requires.1) c.if-marked_within-names_exist.true, key_next _ _ key)
