-- `entry_checks::EntryChecks::check_memories` meets its contract.
use mathlib.Core.Path.{◌≡◌}
use Rattle.certificate.specs.Checks.{first_from}
use Rattle.certificate.specs.Records.{entry_fault}
use Rattle.entry_checks.proofs.EntryChecks.check_memories.Given as goal

abbrev pub invariant-loop-e : goal.invariant-loop-e
invariant-loop-e l =
    let s = l.self.entries.bytes.now in
    first_from l.count (entry_fault s) l.e ≡ first_from l.count (entry_fault s) 0
