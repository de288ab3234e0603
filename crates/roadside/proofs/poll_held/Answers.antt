-- `roadside::poll_held` meets its contract: 18 where the state has another length, else what the poll of the state that is held shows.
use Rattle.std.proofs.Common.{rules, ◌≡◌, length}
use Rattle.certificate.specs.Layout.{max_length}
use Rattle.controller.specs.declared.Controller.{Controller}
use Rattle.polls.specs.Poll.{poll_of}
use Rattle.polling.proofs.Answering.{poll_asks}
use Rattle.packed_state.specs.State.{state_size}
use Rattle.packed_state.proofs.Packing.{is_none}
use Rattle.held_state.proofs.Lengths.{no_state_display}
use Rattle.held_state.proofs.Showing.{shown_as}
use Rattle.roadside.proofs.Crossing.{poll_other_length}
use Rattle.roadside.proofs.poll_held.Goals as goal

pub returns-then-not-has_state_size : goal.returns-then-not-has_state_size
returns-then-not-has_state_size c =
    let a = c.args in
    let none : length a.state.now ≡ state_size → ⊥ = search is_none in
    no_state_display _ _ _ (poll_other_length a.state.now a.bytes.now none) c.no_state.ensures

pub returns : goal.returns
returns c =
    let a = c.args in
    let held = c.unpack-held.result in
    let size : length held.bytes ≡ max_length = search rules in
    shown_as _ _ held _ _ (λ (c : Controller). poll_of c a.bytes.now) _ c.unpack-held.ensures c.ask-outcome.ensures (poll_asks held a.bytes.now size) c.show.ensures
