-- `verdict::judge_entries` meets its contract.
use Prim.Native.Nat.{◌*◌, ◌≤◌}
use mathlib.Core.Path.{◌≡◌}
use Rattle.judging.specs.EntryTests.{judging_from}
use Rattle.judging.specs.Overflow.{overflows_before}
use Rattle.entry_setup.specs.Bytes.{bytes_of}
use Rattle.verdict.proofs.judge_entries.Given as goal

abbrev pub invariant-loop-e : goal.invariant-loop-e
invariant-loop-e l =
    let s = bytes_of l.tables in
    (judging_from s l.e l.accepted.count ≡ judging_from s 0 0) × (l.accepted.count ≤ 32768 * l.e) × (l.accepted.overflows ≡ overflows_before s l.e)
