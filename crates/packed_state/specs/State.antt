-- The state as bytes: the stored array, the length in eight bytes (high byte first), the mode.
use Rattle.std.specs.Prelude.{ℕ, ◌+◌, ◌*◌, ◌/◌, ◌%◌, List, [], ◌∷◌, ◌++◌, Bool, cond, length, take, eqb}
use Rattle.certificate.specs.Layout.{max_length}
use Rattle.certificate.specs.Octets.{byte_at, u16_at}
use Rattle.controller.specs.declared.Controller.{Controller}
use Rattle.controller.specs.State.{fresh_state}

-- how many bytes the length has
abbrev pub length_size : ℕ
length_size = 8

-- how many the length and the mode
abbrev pub state_tail_size : ℕ
state_tail_size = length_size + 1

-- where the mode stands
abbrev pub state_mode_at : ℕ
state_mode_at = max_length + length_size

-- how many bytes a state has
abbrev pub state_size : ℕ
state_size = max_length + state_tail_size

-- a slice has as many
abbrev pub has_state_size : List ℕ → Bool
has_state_size s = eqb (length s) state_size

-- a four-byte number, high byte first
unfoldable pub quad_at : List ℕ → ℕ → ℕ
quad_at s o = u16_at s o * 65536 + u16_at s (o + 2)

-- an eight-byte number, high byte first
unfoldable pub eight_at : List ℕ → ℕ → ℕ
eight_at s o = quad_at s o * 4294967296 + quad_at s (o + 4)

-- the state that bytes are
unfoldable pub state_of : List ℕ → Controller
state_of s = record { bytes = take max_length s; len = eight_at s max_length; mode = byte_at s state_mode_at }

-- the state that a lent slice holds; a slice of any other length holds a fresh state, so no certificate (18)
unfoldable pub held_in : List ℕ → Controller
held_in s = cond (has_state_size s) (state_of s) fresh_state

-- the byte of n whose lowest bit has the value unit
unfoldable pub octet_of : ℕ → ℕ → ℕ
octet_of n unit = n / unit % 256

-- the eight bytes of a length below 2 to the 64, and the mode
unfoldable pub state_tail : ℕ → ℕ → List ℕ
state_tail n mode =
    octet_of n 72057594037927936 ∷ octet_of n 281474976710656 ∷ octet_of n 1099511627776 ∷ octet_of n 4294967296
    ∷ octet_of n 16777216 ∷ octet_of n 65536 ∷ octet_of n 256 ∷ octet_of n 1 ∷ mode ∷ []

-- the bytes of a state
unfoldable pub state_bytes : Controller → List ℕ
state_bytes c = c.bytes ++ state_tail c.len c.mode

-- a lent state's bytes after a call with that number: those of the next state where it succeeds; a refusal leaves them as they were
unfoldable pub bytes_after : ℕ → Controller → List ℕ → List ℕ
bytes_after number next state = cond (eqb number 0) (state_bytes next) state
