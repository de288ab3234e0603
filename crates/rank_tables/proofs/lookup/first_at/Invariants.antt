-- `rank_tables::lookup::first_at` meets its contract. The loop's invariant: the entry looked for lies between low and high.
use Prim.Native.Nat.{◌-◌, ◌≤◌}
use Rattle.rank_tables.specs.Index.{entry_from}
use Rattle.rank_tables.proofs.lookup.first_at.Given as goal

abbrev pub invariant-loop-low : goal.invariant-loop-low
invariant-loop-low l = (l.low ≤ entry_from l.certificate.bytes.now l.d) × (entry_from l.certificate.bytes.now l.d ≤ l.high) × (l.high ≤ l.certificate.layout.entries)

abbrev pub decreases-loop-low : goal.decreases-loop-low
decreases-loop-low l = l.high - l.low
