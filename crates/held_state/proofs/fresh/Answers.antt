-- `held_state::fresh` meets its contract: 18 and the bytes as they were, or the fresh state's.
use Rattle.std.proofs.Common.{◌∙◌, ap}
use Rattle.packed_state.specs.State.{state_bytes}
use Rattle.packed_state.proofs.Packing.{is_state, is_none}
use Rattle.held_state.proofs.Lengths.{no_state_fresh, fresh_passes}
use Rattle.held_state.proofs.fresh.Goals as goal

pub returns-then-not-has_state_size : goal.returns-then-not-has_state_size
returns-then-not-has_state_size c = no_state_fresh _ _ (search is_none) (c.into.ensures ∙ c.refuse.ensures)

pub returns : goal.returns
returns c = fresh_passes _ _ _ (search is_state) c.accept.ensures (c.pack.ensures ∙ ap state_bytes c.fresh-next.ensures)
