use Rattle.std.proofs.Common.{arith, refl}
use Rattle.octets.proofs.Outcomes.{stop, go_on, end}
use Rattle.box_records.proofs.GridPlaces.{laid_none, laid_next}
use Rattle.box_records.proofs.grids.check_grids.Goals as goal

pub loop-l-init : goal.loop-l-init
loop-l-init c = (refl, laid_none _ c.requires.2 c.requires.1)

pub returns-in_err-check_grid-clause-told : goal.returns-in_err-check_grid-clause-told
returns-in_err-check_grid-clause-told c = stop _ _ c.from_residual.ensures.1 _ _ _ _ (omega arith) c.in_err-check_grid.ensures c.loop-l.invariant.0

pub loop-l-preserved : goal.loop-l-preserved
loop-l-preserved c = (
  go_on _ _ _ _ (omega arith) c.in_ok-check_grid.ensures c.loop-l.invariant.0,
  laid_next _ c.loop-l.invariant.1 (omega arith) c.count_at-count.ensures.0 c.in_ok-check_grid.ensures,
)

pub returns-clause-told : goal.returns-clause-told
returns-clause-told c = end _ _ _ _ (omega arith) c.loop-l.invariant.0
