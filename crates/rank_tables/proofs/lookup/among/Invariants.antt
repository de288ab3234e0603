-- `rank_tables::lookup::among` meets its contract. The loop's invariant: the entry looked for does not come before e.
use Prim.Native.Nat.{ℕ, ◌≤◌}
use Rattle.judging.specs.Lookup.{entry_for}
use Rattle.rank_tables.specs.Index.{CellFrom}
use Rattle.rank_tables.proofs.lookup.among.Given as goal

abbrev pub invariant-loop-e : goal.invariant-loop-e
invariant-loop-e l = (l.first ≤ l.e) × ((d : ℕ) → CellFrom l.entries.bytes.now d l.first l.end → l.e ≤ entry_for l.entries.bytes.now d l.m)
