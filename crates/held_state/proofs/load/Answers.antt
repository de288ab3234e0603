-- `held_state::load` meets its contract: 18, the verdict's refusal, or the next state's bytes.
use Rattle.std.proofs.Common.{◌∙◌, ap}
use Rattle.packed_state.specs.State.{state_bytes}
use Rattle.packed_state.proofs.Packing.{state_fits}
use Rattle.controller.proofs.Loads.{load_fits}
use Rattle.held_state.proofs.Lengths.{no_state_load, load_judged, load_passes}
use Rattle.held_state.proofs.load.Goals as goal

pub returns-in_err-require : goal.returns-in_err-require
returns-in_err-require c = no_state_load _ _ _ _ c.from_residual.ensures.1 (rw (← c.has_state_size.ensures) c.in_err-require.ensures)

pub returns-in_err-accepted : goal.returns-in_err-accepted
returns-in_err-accepted c =
    let judged = c.in_err-accepted.ensures in
    load_judged _ _ (rw (← c.has_state_size.ensures) c.in_ok-require.ensures) _ _ c.from_residual-in_err-accepted.ensures.1 judged.told judged.overflows

pub holding-requires : goal.holding-requires
holding-requires c = load_fits _ _ c.in_ok-accepted.ensures.told

pub pack-requires : goal.pack-requires
pack-requires c = state_fits _ (rw (← c.has_state_size.ensures) c.in_ok-require.ensures)

pub returns : goal.returns
returns c =
    let judged = c.in_ok-accepted.ensures in
    load_passes _ _ (rw (← c.has_state_size.ensures) c.in_ok-require.ensures) _ _ judged.told judged.overflows (c.pack.ensures ∙ ap state_bytes c.holding.ensures)
