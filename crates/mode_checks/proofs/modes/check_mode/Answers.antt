-- `mode_checks::modes::check_mode` meets its contract.
use Rattle.certificate.specs.Records.{mode_fault}
use Rattle.octets.proofs.Outcomes.{left_first, then_next}
use Rattle.mode_checks.proofs.modes.check_mode.Goals as goal

pub returns-in_err-check_opened : goal.returns-in_err-check_opened
unfolding mode_fault
returns-in_err-check_opened c =
    rw (← c.record_at-o.ensures.0, ← c.marked_as-mark.ensures, ← c.args.modes.now.sized) (left_first _ _ c.from_residual.ensures.1 _ _ c.in_err-check_opened.ensures)

pub returns : goal.returns
unfolding mode_fault
returns c =
    rw (← c.record_at-o.ensures.0, ← c.marked_as-mark.ensures, ← c.mode_ok.ensures, ← c.args.modes.now.sized) (then_next _ _ _ c.in_ok-check_opened.ensures c.require.ensures)
