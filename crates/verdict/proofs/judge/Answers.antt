-- `verdict::judge` meets its contract.
use Rattle.verdict.proofs.VerdictCases.{count_most, overflows_most}
use Rattle.octets.proofs.Outcomes.{left_after}
use Rattle.verdict.proofs.judge.Goals as goal

pub returns-in_err-judge_with_layout-clause-count : goal.returns-in_err-judge_with_layout-clause-count
returns-in_err-judge_with_layout-clause-count c =
    count_most _ _ (left_after _ _ _ c.from_residual.ensures.1 _ c.in_err-judge_with_layout.ensures.told)

pub returns-clause-count : goal.returns-clause-count
returns-clause-count c = count_most _ _ c.in_ok-judge_with_layout.ensures.told

pub returns-clause-at_most : goal.returns-clause-at_most
returns-clause-at_most c = overflows_most _ _ c.in_ok-judge_with_layout.ensures.overflows
