-- `entry_setup::entry::entry_ends` meets its contract.
use Rattle.entry_setup.proofs.EntryEnds.{limits_fit, ends_are, edges_within}
use Rattle.entry_setup.proofs.entry.entry_ends.Goals as goal

pub ends_of-requires : goal.ends_of-requires
ends_of-requires c =
    let tables = c.args.tables.now in
    (tables.begun, edges_within tables _ _ c.requires.1, limits_fit tables _ _ c.requires.0 c.entry_limits-limits.ensures)

pub returns : goal.returns
returns c = ends_are c.args.tables.now _ _ _ _ c.requires.1 c.entry_limits-limits.ensures c.ends_of.ensures
