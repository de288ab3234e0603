-- `rank_tables::index::index_of` meets its contract.
use Prim.Native.Nat.{◌≤◌}
use Rattle.octets.proofs.FilledTables.{Filled}
use Rattle.rank_tables.specs.Index.{entry_from}
use Rattle.rank_tables.proofs.index.index_of.Given as goal

abbrev pub invariant-loop-d : goal.invariant-loop-d
invariant-loop-d l = (l.e ≤ entry_from l.entries.bytes.now l.d) × Filled 4097 l.d (entry_from l.entries.bytes.now) l.first
