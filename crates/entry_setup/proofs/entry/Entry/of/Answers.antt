-- `entry_setup::entry::Entry::of` meets its contract.
use Rattle.std.proofs.Common.{arith}
use Rattle.entry_setup.proofs.Entries.{next_fits, is_entry}
use Rattle.entry_setup.proofs.entry.Entry.of.Goals as goal

pub overflow_mul-result : goal.overflow_mul-result
overflow_mul-result c = omega (arith, next_fits c.args.tables.now.certificate.now _ _ c.requires c.next_mode_of.ensures.0)

pub invariant_of-result : goal.invariant_of-result
invariant_of-result c = record { found = is_entry c.args.tables.now.certificate.now _ _ c.requires c.next_mode_of.ensures.0 c.rank_of-rank.ensures.0 c.bound_for.ensures }
