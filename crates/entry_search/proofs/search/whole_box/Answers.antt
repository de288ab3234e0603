-- `entry_search::search::whole_box` meets its contract.
use Rattle.std.proofs.Common.{arith}
use Rattle.entry_search.proofs.InBoxes.{cells_most_of, runs_fit, box_passes}
use Rattle.entry_search.proofs.search.whole_box.Goals as goal

pub runs_passed-passed-requires : goal.runs_passed-passed-requires
runs_passed-passed-requires c =
    let entry = c.args.entry.now in
    runs_fit entry.tables.now.certificate.now entry.number _ _ _ _ (omega (arith, c.runs_of-found.ensures.most, c.runs_of-found.array_long)) c.runs_of-found.ensures

pub overflow_mul-found : goal.overflow_mul-found
overflow_mul-found c =
    omega (arith, cells_most_of c.args.entry.now.tables.now.certificate.now _ _ _ _ c.runs_of-found.ensures)

pub returns-then-passed-found : goal.returns-then-passed-found
returns-then-passed-found c =
    let entry = c.args.entry.now in
    let w = entry.tables.now.certificate.now in
    record {
      few = omega (arith, c.if-passed-found.true, cells_most_of w _ _ _ _ c.runs_of-found.ensures);
      passed = λ b B. box_passes w entry.number _ _ _ _ (omega (arith, c.runs_of-found.ensures.most, c.runs_of-found.array_long)) c.runs_of-found.ensures _ c.runs_passed-passed.ensures c.if-passed-found.true b B;
    }
