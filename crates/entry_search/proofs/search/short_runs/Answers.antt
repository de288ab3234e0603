use Rattle.std.proofs.Common.{arith, ◌≡◌, ◌+◌, ◌*◌, ◌≤◌, ◌∙◌, length}
use native.Mathlib.Nat.{mul-le-mul_right, mul_comm}
use Rattle.entry_setup.specs.Bytes.{bytes_of}
use Rattle.entry_search.proofs.InBoxes.{sum_begins, sum_more, columns_most, by_columns}
use Rattle.entry_search.proofs.search.short_runs.Goals as goal

pub loop-j-init : goal.loop-j-init
loop-j-init c = sum_begins _

pub loop-j-preserved : goal.loop-j-preserved
loop-j-preserved c = sum_more _ _ _ _ c.loop-j.invariant c.column_passed-passed.ensures

pub overflow_add-passed : goal.overflow_add-passed
overflow_add-passed c =
    let entry = c.args.entry.now in
    let n = length c.args.runs.now in
    let m : (c.loop-j.j + 1) * n ≤ c.args.size * n = mul-le-mul_right n (omega arith) in
    omega (arith, loop-j-preserved c, columns_most (bytes_of entry.tables.now) entry.number c.args.runs.now c.args.size (c.loop-j.j + 1), c.requires.most, mul_comm c.args.size n)

pub returns : goal.returns
returns c =
    let entry = c.args.entry.now in
    let end : c.loop-j.j ≡ c.args.size = omega arith in
    (rw end at c.loop-j.invariant) ∙ by_columns (bytes_of entry.tables.now) entry.number c.args.runs.now c.args.size
