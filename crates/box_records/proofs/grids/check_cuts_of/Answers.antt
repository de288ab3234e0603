-- `box_records::grids::check_cuts_of` meets its contract.
use Rattle.octets.proofs.Outcomes.{need_left, need_next}
use Rattle.box_records.proofs.grids.check_cuts_of.Goals as goal

pub returns-in_err-require : goal.returns-in_err-require
returns-in_err-require c = rw (← c.requires.2, ← c.count_at-count.ensures.0) (need_left _ _ c.from_residual.ensures.1 _ 1 _ _ c.in_err-require.ensures)

pub returns : goal.returns
returns c = rw (← c.requires.2, ← c.count_at-count.ensures.0, ← c.saturating_sub.ensures) (need_next _ 0 _ _ _ c.in_ok-require.ensures c.check_cuts.ensures)
