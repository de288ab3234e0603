-- What is proved of the calls on a state that is lent as bytes (proofs/Lengths.antt): statements only.
use Rattle.std.specs.Prelude.{ℕ, List, ◌≡◌, length}
use Rattle.certificate.specs.Checks.{refusal, fine}
use Rattle.judging.specs.Verdict.{verdict_of}
use Rattle.judging.specs.Overflow.{overflows_of}
use Rattle.controller.specs.State.{fresh_state}
use Rattle.controller.specs.Query.{refused}
use Rattle.controller.specs.Write.{write_report, write_buffer}
use Rattle.packed_state.specs.State.{state_size, held_in}
use Rattle.held_state.specs.Held.{fresh_report, load_report, load_overflows, shown_for}

-- a state's slice of any other length gets 18 from every call; a query shows signal and green byte 0, and a write leaves the buffer as it was
pub record TurnedBack (state : List ℕ) : Type 0 where
  pub fresh : fresh_report state ≡ refusal 18 0
  pub load : (s : List ℕ) → (load_report state s ≡ refusal 18 0) × (load_overflows state s ≡ 0)
  pub query : (queues : List ℕ) (scale : ℕ) → shown_for state queues scale ≡ refused fresh_state (refusal 18 0)
  pub write : (buffer : List ℕ) (start : ℕ)
      → (write_report (held_in state) buffer start ≡ refusal 18 0) × (write_buffer (held_in state) buffer start ≡ buffer)

abbrev pub OtherLengths : Type 0
OtherLengths = (state : List ℕ) → (length state ≡ state_size → ⊥) → TurnedBack state

-- one of the right length gets what the bytes deserve
pub record Taken (state : List ℕ) : Type 0 where
  pub fresh : fresh_report state ≡ fine
  pub load : (s : List ℕ) → (load_report state s ≡ verdict_of s) × (load_overflows state s ≡ overflows_of s)

abbrev pub RightLength : Type 0
RightLength = (state : List ℕ) → length state ≡ state_size → Taken state
