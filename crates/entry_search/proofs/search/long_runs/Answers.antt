use Rattle.std.proofs.Common.{arith, ◌+◌, ◌*◌, ◌≤◌, ◌∙◌, length}
use native.Mathlib.Nat.{mul-le-mul_right}
use Rattle.entry_setup.specs.Bytes.{bytes_of}
use Rattle.entry_search.proofs.InBoxes.{sum_begins, sum_more, runs_most}
use Rattle.entry_search.proofs.search.long_runs.Goals as goal

pub loop-first-init : goal.loop-first-init
loop-first-init c = sum_begins _

pub loop-first-preserved : goal.loop-first-preserved
loop-first-preserved c = sum_more _ _ _ _ c.loop-first.invariant (c.run_passed-passed.ensures ∙ rw c.from.ensures)

pub overflow_add-passed : goal.overflow_add-passed
overflow_add-passed c =
    let entry = c.args.entry.now in
    let m : (c.loop-first.first-index + 1) * c.args.size ≤ length c.args.runs.now * c.args.size = mul-le-mul_right c.args.size (omega arith) in
    omega (arith, loop-first-preserved c, runs_most (bytes_of entry.tables.now) entry.number c.args.runs.now c.args.size (c.loop-first.first-index + 1), c.requires.most)
