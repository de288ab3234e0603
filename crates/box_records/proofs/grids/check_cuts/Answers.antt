use Rattle.std.proofs.Common.{arith, refl, ◌∙◌}
use Rattle.certificate.specs.Records.{cut_before}
use Rattle.octets.proofs.Outcomes.{stop, go_on, end}
use Rattle.box_records.proofs.Grid.{cut_told, cut_next}
use Rattle.box_records.proofs.grids.check_cuts.Goals as goal

pub loop-i-init : goal.loop-i-init
unfolding cut_before
loop-i-init c = (refl, refl)

pub returns-in_err-require : goal.returns-in_err-require
returns-in_err-require c =
    let told = c.in_err-require.ensures ∙ cut_told _ _ _ c.requires.2 c.requires.3 c.loop-i.invariant.1 c.cut_at-cut.ensures.0 in
    stop _ _ c.from_residual.ensures.1 _ _ _ _ (omega arith) told c.loop-i.invariant.0

pub loop-i-preserved : goal.loop-i-preserved
loop-i-preserved c =
    let last = c.loop-i.invariant.1 in
    let this = c.cut_at-cut.ensures.0 in (
      go_on _ _ _ _ (omega arith) (c.in_ok-require.ensures ∙ cut_told _ _ _ c.requires.2 c.requires.3 last this) c.loop-i.invariant.0,
      cut_next _ _ _ c.requires.2 c.requires.3 last this,
    )

pub returns : goal.returns
returns c = end _ _ _ _ (omega arith) c.loop-i.invariant.0
