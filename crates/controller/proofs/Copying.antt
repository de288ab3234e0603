-- A loop that copies a list over a part of a buffer, byte by byte. Assumes nothing.
use Prim.Native.Nat.{ℕ, ◌+◌, ◌≤◌, ◌<◌}
use mathlib.Core.List.{List, ◌++◌, append-nil}
use mathlib.Core.Path.{◌≡◌, ◌∙◌}
use native.Mathlib.Nat.{zero-add}
use native.Mathlib.Omega.{arith}
use lib.ListN.{length, set, get_or, take, drop, drop_of_length-le}
use lib.Seq.{take_all}
use Rattle.std.proofs.lemmas.List.Edits.{paste_more}

-- s over d: t is what stands there after n turns
pub record Copied (s d : List ℕ) (n : ℕ) (t : List ℕ) : Type 0 where
  pub bytes : t ≡ take n s ++ drop n d

pub copied_more : {s d t : List ℕ} (n : ℕ) → Copied s d n t → n < length s → n < length d → Copied s d (n + 1) (set t n (get_or s n 0))
copied_more {s} {d} n h left within = record { bytes = rw h.bytes (simp zero-add at (paste_more d 0 s n 0 (omega arith) left)) }

-- all of d is overwritten
pub copied_all : {s d t : List ℕ} (n : ℕ) → Copied s d n t → n ≡ length s → length d ≤ n → t ≡ s
copied_all {s} {d} n h whole over = h.bytes ∙ rw (take_all n s (omega arith), drop_of_length-le d {i = n} over, append-nil)
