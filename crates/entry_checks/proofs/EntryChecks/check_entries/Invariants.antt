-- `entry_checks::EntryChecks::check_entries` meets its contract.
use Prim.Native.Nat.{ℕ, ◌<◌}
use Rattle.entry_checks.specs.Keys.{KeyBefore, Ordered}
use Rattle.entry_checks.proofs.EntryChecks.check_entries.Given as goal

abbrev pub invariant-loop-e : goal.invariant-loop-e
invariant-loop-e l =
    let s = l.self.entries.bytes.now in
    ((k : ℕ) → k < l.e → Ordered s k) × KeyBefore s l.e l.least
