-- `reading::records::Starts::check_network` meets its contract.
use Rattle.std.proofs.Common.{arith}
use Rattle.certificate.specs.Reading.{links_fault, turns_fault, signals_fault}
use Rattle.reading.specs.ReadingResults.{network_fault}
use Rattle.octets.proofs.Outcomes.{left_first, then_next}
use Rattle.reading.proofs.Stages.{as_many, header_facts}
use Rattle.reading.proofs.records.Starts.check_network.Goals as goal

pub returns-in_err-check_links : goal.returns-in_err-check_links
unfolding network_fault links_fault
returns-in_err-check_links c = left_first _ _ c.from_residual.ensures.1 _ _ (as_many _ c.links_of-links.ensures.0 c.in_err-check_links.ensures)

pub returns-in_err-check_all : goal.returns-in_err-check_all
unfolding network_fault links_fault turns_fault
returns-in_err-check_all c =
    then_next _ _ _ (as_many _ c.links_of-links.ensures.0 c.in_ok-check_links.ensures)
    (left_first _ _ c.from_residual-in_err-check_all.ensures.1 _ _ (as_many _ c.turns_of.ensures.0 c.in_err-check_all.ensures))

pub check_all-requires-2 : goal.check_all-requires-2
check_all-requires-2 c =
    let most = (header_facts _ c.args.self.now.header).links_most in
    (omega (arith, c.signals_of.ensures), omega (arith, c.links_of-links.ensures), c.links_of-links.ensures.0)

pub returns-in_err-check_all-2 : goal.returns-in_err-check_all-2
unfolding network_fault links_fault turns_fault signals_fault
returns-in_err-check_all-2 c =
    then_next _ _ _ (as_many _ c.links_of-links.ensures.0 c.in_ok-check_links.ensures)
    (then_next _ _ _ (as_many _ c.turns_of.ensures.0 c.in_ok-check_all.ensures)
    (left_first _ _ c.from_residual-in_err-check_all-2.ensures.1 _ _ (as_many _ c.signals_of.ensures.0 c.in_err-check_all-2.ensures)))

pub returns : goal.returns
unfolding network_fault links_fault turns_fault signals_fault
returns c =
    then_next _ _ _ (as_many _ c.links_of-links.ensures.0 c.in_ok-check_links.ensures)
    (then_next _ _ _ (as_many _ c.turns_of.ensures.0 c.in_ok-check_all.ensures)
    (then_next _ _ _ (as_many _ c.signals_of.ensures.0 c.in_ok-check_all-2.ensures) (rw (← c.of.ensures.0) c.check_modes.ensures)))
