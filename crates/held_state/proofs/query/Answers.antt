-- `held_state::query` meets its contract: 18 where the state has another length, else what the query of the state that is held shows.
use Rattle.std.proofs.Common.{rules, ◌≡◌, length}
use Rattle.certificate.specs.Layout.{max_length}
use Rattle.controller.specs.declared.Controller.{Controller}
use Rattle.controller.specs.Query.{query_of}
use Rattle.controller.proofs.Held.{query_asks}
use Rattle.packed_state.specs.State.{state_size}
use Rattle.packed_state.proofs.Packing.{is_none}
use Rattle.held_state.proofs.Lengths.{other_lengths, no_state_display}
use Rattle.held_state.proofs.Showing.{shown_as}
use Rattle.held_state.proofs.query.Goals as goal

pub returns-then-not-has_state_size : goal.returns-then-not-has_state_size
returns-then-not-has_state_size c =
    let a = c.args in
    let none : length a.state.now ≡ state_size → ⊥ = search is_none in
    no_state_display _ _ _ ((other_lengths a.state.now none).query a.queues.now a.scale) c.no_state.ensures

pub returns : goal.returns
returns c =
    let a = c.args in
    let held = c.unpack-held.result in
    let size : length held.bytes ≡ max_length = search rules in
    shown_as _ _ held _ _ (λ (c : Controller). query_of c a.queues.now a.scale) _ c.unpack-held.ensures c.ask-outcome.ensures (query_asks held a.queues.now a.scale size) c.show.ensures
