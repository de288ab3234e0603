-- `exports::dergvost_write` meets its contract: 18 where the state has another length.
use Rattle.std.proofs.Common.{◌≡◌, length, sym, ◌∙◌, arith}
use Rattle.packed_state.specs.State.{state_size}
use Rattle.packed_state.proofs.Packing.{is_none}
use Rattle.exports.proofs.Answering.{all_done}
use Rattle.held_state.proofs.Lengths.{other_lengths}
use Rattle.exports.proofs.dergvost_write.Goals as goal

pub returns-then-not-has_state_size : goal.returns-then-not-has_state_size
returns-then-not-has_state_size c =
    let a = c.args in
    let none : length a.state.now ≡ state_size → ⊥ = search is_none in
    let back = (other_lengths a.state.now none).write a.buffer.now a.start in
    all_done (omega arith) (rw (← (c.into.ensures ∙ c.refuse.ensures ∙ sym back.0)) c.put_report.ensures) (sym back.1)
