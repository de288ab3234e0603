-- `rank_tables::index::first_from` meets its contract.
use Prim.Native.Nat.{◌≤◌}
use Rattle.rank_tables.specs.Index.{entry_from}
use Rattle.rank_tables.proofs.index.first_from.Given as goal

abbrev pub invariant-loop-f : goal.invariant-loop-f
invariant-loop-f l = l.f ≤ entry_from l.entries.bytes.now l.d
