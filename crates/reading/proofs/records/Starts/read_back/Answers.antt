-- `reading::records::Starts::read_back` meets its contract.
use Rattle.std.proofs.Common.{arith}
use Rattle.certificate.specs.Reading.{grids_fault}
use Rattle.reading.specs.ReadingResults.{back_fault}
use Rattle.octets.proofs.Outcomes.{left_first, left, then_next}
use Rattle.reading.proofs.Stages.{as_many, header_facts}
use Rattle.reading.proofs.records.Starts.read_back.Goals as goal

pub check_grids-requires : goal.check_grids-requires
check_grids-requires c =
    let most = (header_facts _ c.args.self.now.header).links_most in
    (omega (arith, c.links_of.ensures), c.args.self.now.placed.grids_most, c.args.self.now.placed.grids_is)

pub returns-in_err-found-clause-told : goal.returns-in_err-found-clause-told
unfolding back_fault grids_fault
returns-in_err-found-clause-told c = left_first _ _ c.from_residual.ensures.1 _ _ (as_many _ c.links_of.ensures.0 c.in_err-found.ensures.told)

pub returns-in_err-check_tail-clause-told : goal.returns-in_err-check_tail-clause-told
unfolding back_fault grids_fault
returns-in_err-check_tail-clause-told c =
    then_next _ _ _ (as_many _ c.links_of.ensures.0 c.in_ok-found.ensures.told)
    (left _ _ c.from_residual-in_err-check_tail.ensures.1 _ c.in_err-check_tail.ensures)

pub returns-clause-told : goal.returns-clause-told
unfolding back_fault grids_fault
returns-clause-told c = then_next _ _ _ (as_many _ c.links_of.ensures.0 c.in_ok-found.ensures.told) c.in_ok-check_tail.ensures
