-- `asking::stored::held` meets its contract.
use Rattle.std.proofs.Common.{◌≡◌, ◌<◌, Some, None, arith, length}
use native.Mathlib.Nat.{sub-zero}
use Rattle.octets.proofs.Outcomes.{left}
use Rattle.asking.proofs.Answers.{too_few, screened}
use Rattle.asking.proofs.stored.held.Goals as goal

pub returns-in_err-stored : goal.returns-in_err-stored
returns-in_err-stored c =
    let none : c.get.result ≡ None = grind arith in
    let few : length c.args.bytes.now < c.args.n = grind arith in
    let same : c.in_err-stored.field-0.0 ≡ c.refuse-none.result = grind arith in
    too_few _ _ few _ c.from_residual.ensures.0 (left _ _ c.from_residual.ensures.1 _ (rw same c.refuse-none.ensures))

pub returns : goal.returns
returns c =
    let some : c.get.result ≡ Some c.in_ok-stored.stored = grind arith in
    let part = (rw (some, sub-zero) at c.get.ensures.lookup).0 in
    rw c.or.ensures (screened _ _ part.1 _ (rw part.2 at c.screen.ensures) _ c.refuse-none.ensures)
