-- `reading::records::check_tail` meets its contract.
use Rattle.std.proofs.Common.{arith, ◌∙◌}
use Rattle.certificate.specs.Layout.{end_at}
use Rattle.certificate.specs.Reading.{arrivals_fault, entries_fault}
use Rattle.reading.specs.ReadingResults.{tail_fault}
use Rattle.octets.proofs.Outcomes.{left_first, then_next}
use Rattle.reading.proofs.Stages.{as_many}
use Rattle.reading.proofs.records.check_tail.Goals as goal

pub returns-in_err-check_all : goal.returns-in_err-check_all
unfolding tail_fault arrivals_fault
returns-in_err-check_all c = left_first _ _ c.from_residual.ensures.1 _ _ (as_many _ c.requires.boxes_are c.in_err-check_all.ensures)

pub check_end-requires : goal.check_end-requires
unfolding end_at
check_end-requires c = (omega (arith, c.record_at.ensures), c.record_at.ensures.0 ∙ rw c.requires.entries_are)

pub returns-in_err-check_entries : goal.returns-in_err-check_entries
unfolding tail_fault arrivals_fault entries_fault
returns-in_err-check_entries c =
    then_next _ _ _ (as_many _ c.requires.boxes_are c.in_ok-check_all.ensures)
    (left_first _ _ c.from_residual-in_err-check_entries.ensures.1 _ _ (as_many _ c.requires.entries_are c.in_err-check_entries.ensures))

pub returns : goal.returns
unfolding tail_fault arrivals_fault entries_fault
returns c =
    then_next _ _ _ (as_many _ c.requires.boxes_are c.in_ok-check_all.ensures)
    (then_next _ _ _ (as_many _ c.requires.entries_are c.in_ok-check_entries.ensures) c.check_end.ensures)
