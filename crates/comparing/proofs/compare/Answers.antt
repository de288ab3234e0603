-- `comparing::compare` meets its contract.
use Rattle.comparing.proofs.Parts.{compared, first_out, second_out, both_out}
use Rattle.comparing.proofs.compare.Goals as goal

pub returns-in-Err : goal.returns-in-Err
returns-in-Err c = rw c.into.ensures (compared _ _ (first_out _ _ c.in-Err.e c.in-Err.ensures.told))

pub returns-in-Err-judge_with_layout : goal.returns-in-Err-judge_with_layout
returns-in-Err-judge_with_layout c =
    let second = c.in-Err-judge_with_layout in
    rw c.into-in-Err-judge_with_layout.ensures (compared _ _ (second_out _ _ second.f _ c.in-Ok.ensures.told second.ensures.told))

pub returns : goal.returns
returns c =
    let first = c.in-Ok.ensures in
    let second = c.in-Ok-judge_with_layout.ensures in
    compared _ _ (both_out _ _ _ _ first.told second.told (rw (first.bytes, second.bytes) at c.compare_accepted.ensures))
