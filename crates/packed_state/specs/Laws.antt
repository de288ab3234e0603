-- What is proved of the state as bytes (proofs/Passing.antt): statements only.
use Rattle.std.specs.Prelude.{ℕ, ◌<◌, List, ◌≡◌, length}
use Rattle.certificate.specs.Layout.{max_length}
use Rattle.controller.specs.declared.Controller.{Controller}
use Rattle.controller.specs.Laws.{HoldsCertificate}
use Rattle.packed_state.specs.State.{state_size, held_in, state_bytes, bytes_after}

-- a state's array has its full length, and the length that it says is below 2 to the 64: of every value of the type this is so
pub record WholeState (c : Controller) : Type 0 where
  pub size : length c.bytes ≡ max_length
  pub small : c.len < 18446744073709551616

-- the state that is held in a state's bytes is that state
abbrev pub UnpacksAgain : Type 0
UnpacksAgain = (c : Controller) → WholeState c → held_in (state_bytes c) ≡ c

-- a slice of any other length holds no certificate
abbrev pub OtherLengthHoldsNone : Type 0
OtherLengthHoldsNone = (s : List ℕ) → (length s ≡ state_size → ⊥) → HoldsCertificate (held_in s) → ⊥

-- a lent state's bytes after a call: with any number but 0 they are as they were; with 0 they are as many as before, and hold the next state
pub record After (next : Controller) (state : List ℕ) : Type 0 where
  pub kept : (number : ℕ) → (number ≡ 0 → ⊥) → bytes_after number next state ≡ state
  pub size : WholeState next → length (bytes_after 0 next state) ≡ state_size
  pub holds : WholeState next → held_in (bytes_after 0 next state) ≡ next

abbrev pub BytesAfter : Type 0
BytesAfter = (next : Controller) (state : List ℕ) → After next state
