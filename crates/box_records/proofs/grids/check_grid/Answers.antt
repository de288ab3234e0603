-- `box_records::grids::check_grid` meets its contract.
use Rattle.certificate.specs.Records.{grid_fault}
use Rattle.octets.proofs.Outcomes.{left_first, then_next, need_left, need_next}
use Rattle.box_records.proofs.Grid.{opened_here, counted_here}
use Rattle.box_records.proofs.grids.check_grid.Goals as goal

pub returns-in_err-check_opened : goal.returns-in_err-check_opened
unfolding grid_fault
returns-in_err-check_opened c = left_first _ _ c.from_residual.ensures.1 _ _ (opened_here _ _ c.requires.3 _ _ c.marked_as.ensures c.in_err-check_opened.ensures)

pub returns-in_err-require : goal.returns-in_err-require
unfolding grid_fault
returns-in_err-require c =
    then_next _ _ _ (opened_here _ _ c.requires.3 _ _ c.marked_as.ensures c.in_ok-check_opened.ensures)
    (need_left _ _ c.from_residual-in_err-require.ensures.1 _ 7 _ _ (counted_here _ _ c.requires.3 _ _ c.count_ok.ensures c.in_err-require.ensures))

pub returns : goal.returns
unfolding grid_fault
returns c =
    then_next _ _ _ (opened_here _ _ c.requires.3 _ _ c.marked_as.ensures c.in_ok-check_opened.ensures)
    (need_next _ 6 _ _ _ (counted_here _ _ c.requires.3 _ _ c.count_ok.ensures c.in_ok-require.ensures) c.check_cuts_of.ensures)
