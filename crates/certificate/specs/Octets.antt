-- Bytes at an offset of a certificate. Reads are total: past the end stands 0.
use Rattle.std.specs.Prelude.{ℕ, ◌+◌, ◌*◌, ◌^◌, ◌/◌, ◌%◌, List, Bool, ◌&&◌, get_or, eqb}

infixl 30 ◌also◌
-- the byte at offset o
abbrev pub byte_at : List ℕ → ℕ → ℕ
byte_at s o = get_or s o 0

-- a two-byte number (document 01: u16), high byte first
abbrev pub u16_at : List ℕ → ℕ → ℕ
u16_at s o = byte_at s o * 256 + byte_at s (o + 1)

-- bit i of a byte, of value 2 to the i, is set
unfoldable pub bit_of : ℕ → ℕ → Bool
bit_of x i = eqb (x / 2 ^ i % 2) 1

-- both tests hold
unfoldable pub ◌also◌ : Bool → Bool → Bool
a also b = a && b
