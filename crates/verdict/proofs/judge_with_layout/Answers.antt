-- `verdict::judge_with_layout` meets its contract.
use Rattle.std.specs.Prelude.{Ok, Err}
use Rattle.verdict.proofs.VerdictCases.{Says, screening_says, judging_says, left_says}
use Rattle.verdict.specs.Entries.{judged_as}
use Rattle.verdict.proofs.judge_with_layout.Goals as goal
use Rattle.verdict.proofs.judge_with_layout.Goals.{After-from_residual, After-from_residual-in_err-accepted, In_ok-accepted}

not_screened : (c : After-from_residual) → Says c.args.s.now (judged_as c.from_residual.result)
not_screened c = left_says _ _ _ c.from_residual.ensures.1 (screening_says _ _ c.in_err-certificate.ensures.told_is)

refused : (c : After-from_residual-in_err-accepted) → Says c.args.s.now (judged_as c.from_residual-in_err-accepted.result)
refused c =
    let screened = c.in_ok-certificate.ensures in
    left_says _ _ _ c.from_residual-in_err-accepted.ensures.1 (judging_says _ (Err _) screened.told_is (rw screened.bytes_are at c.in_err-accepted.ensures))

accepted : (c : In_ok-accepted) → Says c.args.s.now (Ok c.in_ok-accepted.accepted)
accepted c =
    let screened = c.in_ok-certificate.ensures in
    judging_says _ (Ok _) screened.told_is (rw screened.bytes_are at c.in_ok-accepted.ensures)

pub returns-in_err-certificate-clause-told : goal.returns-in_err-certificate-clause-told
returns-in_err-certificate-clause-told c = (not_screened c).0

pub returns-in_err-certificate-clause-overflows : goal.returns-in_err-certificate-clause-overflows
returns-in_err-certificate-clause-overflows c = (not_screened c).1

pub returns-in_err-accepted-clause-told : goal.returns-in_err-accepted-clause-told
returns-in_err-accepted-clause-told c = (refused c).0

pub returns-in_err-accepted-clause-overflows : goal.returns-in_err-accepted-clause-overflows
returns-in_err-accepted-clause-overflows c = (refused c).1

pub returns-clause-told : goal.returns-clause-told
returns-clause-told c = (accepted c).0

pub returns-clause-overflows : goal.returns-clause-overflows
returns-clause-overflows c = (accepted c).1
