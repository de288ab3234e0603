use Rattle.std.proofs.Common.{refl, ◌∙◌, arith}
use Rattle.grid.specs.Cells.{number_of, cell_at}
use Rattle.cell_tables.proofs.Locating.{placed_next, placed_all}
use Rattle.cell_tables.proofs.queues.cell_at.Goals as goal

pub loop-l-init : goal.loop-l-init
unfolding number_of
loop-l-init c = refl

pub with_link-cell-requires : goal.with_link-cell-requires
with_link-cell-requires c =
    (placed_next c.args.certificate.now _ _ c.requires.2 _ _ _ _ (omega (arith, c.requires.0)) c.loop-l.invariant c.intervals_of.ensures.0 c.interval_at-i.ensures).1

pub loop-l-preserved : goal.loop-l-preserved
loop-l-preserved c =
    c.with_link-cell.ensures ∙ (placed_next c.args.certificate.now _ _ c.requires.2 _ _ _ _ (omega (arith, c.requires.0)) c.loop-l.invariant c.intervals_of.ensures.0 c.interval_at-i.ensures).0

pub returns : goal.returns
unfolding cell_at
returns c = placed_all c.args.certificate.now _ _ c.requires.2 _ _ (omega (arith, c.requires.0)) c.loop-l.invariant
