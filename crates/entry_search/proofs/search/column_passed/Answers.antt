use Rattle.std.proofs.Common.{arith, ◌≡◌, ◌+◌, ◌∙◌, get_or}
use Rattle.successors.specs.Ranges.{how_many}
use Rattle.entry_setup.specs.Bytes.{bytes_of}
use Rattle.entry_search.specs.Search.{passes}
use Rattle.entry_search.proofs.InBoxes.{many_most, sum_begins, many_more}
use Rattle.entry_search.proofs.search.column_passed.Goals as goal
use Rattle.entry_search.proofs.search.column_passed.Goals.{After-from-passed}

next : (c : After-from-passed) → c.loop-run.passed + c.from-passed.result ≡ how_many (c.loop-run.run-index + 1) (λ i. passes (bytes_of c.args.entry.now.tables.now) c.args.entry.now.number (get_or c.args.runs.now i 0 + c.args.j))
next c = many_more _ _ _ _ _ c.loop-run.invariant (c.passes.ensures ∙ rw c.from.ensures) c.from-passed.ensures

pub loop-run-init : goal.loop-run-init
loop-run-init c = sum_begins _

pub overflow_add-passed : goal.overflow_add-passed
overflow_add-passed c =
    let entry = c.args.entry.now in
    omega (arith, next c, many_most (c.loop-run.run-index + 1) (λ i. passes (bytes_of entry.tables.now) entry.number (get_or c.args.runs.now i 0 + c.args.j)), c.requires.0)

pub loop-run-preserved : goal.loop-run-preserved
loop-run-preserved c = next c
