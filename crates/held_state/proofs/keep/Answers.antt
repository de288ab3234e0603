-- `held_state::keep` meets its contract.
use Rattle.std.proofs.Common.{◌∙◌}
use Rattle.held_state.proofs.Lengths.{kept, not_kept}
use Rattle.held_state.proofs.keep.Goals as goal
use Rattle.held_state.proofs.keep.Goals.{then-succeeds, else-succeeds}

pub returns : goal.returns
returns c = elim c.if-succeeds.branch [ then-succeeds w ↦ kept _ _ _ w.if-succeeds.true (w.state-is ∙ w.pack.ensures) | else-succeeds w ↦ not_kept _ _ _ w.if-succeeds.false w.state-is ]
