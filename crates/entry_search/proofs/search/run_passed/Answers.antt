use Rattle.std.proofs.Common.{arith, ◌≡◌, ◌+◌}
use Rattle.entry_setup.specs.Bytes.{bytes_of}
use Rattle.entry_search.specs.Search.{passes, run_passing}
use Rattle.entry_search.proofs.InBoxes.{many_most, sum_begins, many_more}
use Rattle.entry_search.proofs.search.run_passed.Goals as goal
use Rattle.entry_search.proofs.search.run_passed.Goals.{After-from-passed}

next : (c : After-from-passed) → c.loop-j.passed + c.from-passed.result ≡ run_passing (bytes_of c.args.entry.now.tables.now) c.args.entry.now.number c.args.first (c.loop-j.j + 1)
next c = many_more _ _ _ _ _ c.loop-j.invariant c.passes.ensures c.from-passed.ensures

pub loop-j-init : goal.loop-j-init
loop-j-init c = sum_begins _

pub overflow_add-passed : goal.overflow_add-passed
overflow_add-passed c =
    let entry = c.args.entry.now in
    let w = entry.tables.now.certificate.now in
    omega (arith, next c, many_most (c.loop-j.j + 1) (λ k. passes w.bytes.now entry.number (c.args.first + k)), c.requires, w.laid.cells_are, w.laid.cells_most)

pub loop-j-preserved : goal.loop-j-preserved
loop-j-preserved c = next c
