-- `octets::refusals::check_opened` meets its contract.
use Rattle.certificate.specs.Checks.{opened}
use Rattle.octets.proofs.Outcomes.{need_left, need_next}
use Rattle.octets.proofs.refusals.check_opened.Goals as goal

pub returns-in_err-require : goal.returns-in_err-require
unfolding opened
returns-in_err-require c = need_left _ _ c.from_residual.ensures.1 _ 1 _ _ c.in_err-require.ensures

pub returns-in_err-require-2 : goal.returns-in_err-require-2
unfolding opened
returns-in_err-require-2 c = need_next _ 0 _ _ _ c.in_ok-require.ensures (need_left _ _ c.from_residual-in_err-require-2.ensures.1 _ 2 _ _ c.in_err-require-2.ensures)

pub returns : goal.returns
unfolding opened
returns c = need_next _ 0 _ _ _ c.in_ok-require.ensures (need_next _ 1 _ _ _ c.in_ok-require-2.ensures c.require-3.ensures)
