-- The state that is held in bytes is the state that was put there. Assumes nothing.
use Prim.Native.Nat.{ℕ, ◌+◌}
use mathlib.Core.List.{List, ◌++◌}
use mathlib.Core.Path.{◌≡◌, sym}
use lib.ListN.{length, get_or, take, length-append}
use lib.Seq.{get_or-append-add, take_at}
use Rattle.certificate.specs.Layout.{max_length}
use Rattle.controller.specs.declared.Controller.{Controller}
use Rattle.controller.proofs.Holding.{fresh_holds_none}
use Rattle.packed_state.specs.State.{state_mode_at, state_size, quad_at, eight_at, state_tail, state_bytes, bytes_after}
use Rattle.packed_state.specs.Laws.{WholeState, UnpacksAgain, OtherLengthHoldsNone, BytesAfter}
use Rattle.packed_state.proofs.Octets.{eight}
use Rattle.packed_state.proofs.Packing.{made, other_length, refusal_keeps}

-- a byte behind the array
behind : (bytes rest : List ℕ) (n k : ℕ) → length bytes ≡ n → get_or (bytes ++ rest) (n + k) 0 ≡ get_or rest k 0
behind bytes rest n k h = rw (← h) (get_or-append-add bytes rest k 0)

module _ (c : Controller) (w : WholeState c) where
  tail_at : (k : ℕ) → get_or (state_bytes c) (max_length + k) 0 ≡ get_or (state_tail c.len c.mode) k 0
  unfolding state_bytes
  tail_at k = behind c.bytes (state_tail c.len c.mode) max_length k w.size

  size_back : length (state_bytes c) ≡ state_size
  unfolding state_bytes state_tail
  size_back = rw (length-append, w.size)

  bytes_back : take max_length (state_bytes c) ≡ c.bytes
  unfolding state_bytes
  bytes_back = take_at c.bytes (state_tail c.len c.mode) max_length w.size

  length_back : eight_at (state_bytes c) max_length ≡ c.len
  unfolding eight_at quad_at state_tail
  length_back = rw (tail_at 0, tail_at 1, tail_at 2, tail_at 3, tail_at 4, tail_at 5, tail_at 6, tail_at 7) (eight c.len w.small)

  mode_back : get_or (state_bytes c) state_mode_at 0 ≡ c.mode
  unfolding state_tail
  mode_back = tail_at 8

pub unpacks_again : UnpacksAgain
unpacks_again c w =
    sym (made (state_bytes c) c.bytes c.len c.mode (size_back c w) (sym (bytes_back c w)) (sym (length_back c w)) (sym (mode_back c w)))

pub other_length_holds_none : OtherLengthHoldsNone
other_length_holds_none s h held = fresh_holds_none (rw (other_length s h) at held)

pub bytes_after_lem : BytesAfter
unfolding bytes_after
bytes_after_lem next state = record { kept = λ number other. sym (refusal_keeps number next state other); size = λ w. size_back next w; holds = λ w. unpacks_again next w }
