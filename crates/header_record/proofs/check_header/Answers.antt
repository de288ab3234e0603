-- `header_record::check_header` meets its contract.
use Rattle.certificate.specs.Records.{header_fault}
use Rattle.octets.proofs.Outcomes.{left_first, then_next}
use Rattle.header_record.proofs.check_header.Goals as goal

pub returns-in_err-check_opened : goal.returns-in_err-check_opened
unfolding header_fault
returns-in_err-check_opened c = rw (← c.header_marked.ensures) (left_first _ _ c.from_residual.ensures.1 _ _ c.in_err-check_opened.ensures)

pub returns : goal.returns
unfolding header_fault
returns c = rw (← c.header_marked.ensures, ← c.counts_ok.ensures) (then_next _ _ _ c.in_ok-check_opened.ensures c.require.ensures)
