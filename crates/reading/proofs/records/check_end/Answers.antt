-- `reading::records::check_end` meets its contract.
use Rattle.certificate.specs.Records.{end_fault}
use Rattle.octets.proofs.Outcomes.{left_first, then_next}
use Rattle.reading.proofs.records.check_end.Goals as goal

pub returns-in_err-check_opened : goal.returns-in_err-check_opened
unfolding end_fault
returns-in_err-check_opened c =
    rw (← c.requires.1, ← c.marked_as.ensures) (left_first _ _ c.from_residual.ensures.1 _ _ c.in_err-check_opened.ensures)

pub returns : goal.returns
unfolding end_fault
returns c = rw (← c.requires.1, ← c.marked_as.ensures) (then_next _ _ _ c.in_ok-check_opened.ensures c.require.ensures)
