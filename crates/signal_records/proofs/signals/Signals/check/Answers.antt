-- `signal_records::signals::Signals::check` meets its contract.
use Rattle.certificate.specs.Records.{signal_ok, signal_fault}
use Rattle.octets.proofs.Outcomes.{left_first, then_next}
use Rattle.signal_records.proofs.signals.Signals.check.Goals as goal

pub returns-in_err-check_opened : goal.returns-in_err-check_opened
unfolding signal_fault
returns-in_err-check_opened c = rw (← c.record_at-o.ensures.0, ← c.marked_as-marked.ensures) (left_first _ _ c.from_residual.ensures.1 _ _ c.in_err-check_opened.ensures)

pub returns : goal.returns
unfolding signal_fault signal_ok
returns c =
    rw (← c.green_byte_of.ensures.0, ← c.requires.2, ← c.power.ensures, ← c.record_at-o.ensures.0, ← c.marked_as-marked.ensures)
    (then_next _ _ _ c.in_ok-check_opened.ensures c.require.ensures)
