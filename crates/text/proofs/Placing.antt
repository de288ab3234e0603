-- Text written at a place of a buffer. Assumes nothing.
use mathlib.Core.Path.{◌≡◌, ◌∙◌}
use mathlib.Core.List.{List, [], ◌∷◌, ◌++◌, append_assoc, append-nil}
use Prim.Native.Nat.{ℕ, suc, ◌+◌, ◌≤◌, ◌<◌}
use native.Mathlib.Omega.{arith}
use native.Mathlib.Nat.{add-zero, zero-add, add_assoc}
use native.Mathlib.Numerals.{add-one}
use borrow.Rule.Slice.PartMut.{put_mid}
use lib.ListN.{length, set, get_or, take, drop, length-append, length-drop, take-append-drop, drop_of_length-le}
use lib.Seq.{append_snoc, length-take-le, take_all, take_at, drop_at, drop-drop, take-set-le, set_split}
use Rattle.std.proofs.lemmas.List.Edits.{paste_more}
use Rattle.text.specs.TextPut.{written}

-- nothing written leaves the buffer as it was
pub written_none : (b : List ℕ) (at : ℕ) → written b at [] ≡ b
unfolding written
written_none b at = rw (add-zero, take-append-drop)

-- a place within the buffer: what stands up to the text's end, and what stands after it
front_length : (b : List ℕ) (at : ℕ) (t : List ℕ) → at ≤ length b → length (take at b ++ t) ≡ at + length t
front_length b at t h = rw (length-append, length-take-le at b h)

take-written : (b : List ℕ) (at : ℕ) (t : List ℕ) → at ≤ length b → take (at + length t) (written b at t) ≡ take at b ++ t
unfolding written
take-written b at t h = rw (← append_assoc (take at b)) (take_at (take at b ++ t) _ (at + length t) (front_length b at t h))

drop-written : (b : List ℕ) (at : ℕ) (t : List ℕ) → at ≤ length b → drop (at + length t) (written b at t) ≡ drop (at + length t) b
unfolding written
drop-written b at t h = rw (← append_assoc (take at b)) (drop_at (take at b ++ t) _ (at + length t) (front_length b at t h))

-- a text, then another right after it
pub written-append : (b : List ℕ) (at : ℕ) (t u : List ℕ) → at ≤ length b
    → written (written b at t) (at + length t) u ≡ written b at (t ++ u)
written-append b at t u h =
    unfold written in
    rw (← drop-drop (length u) (at + length t), take-written b at t h, drop-written b at t h, drop-drop, length-append, add_assoc) (simp append_assoc)

pub length-written : (b : List ℕ) (at : ℕ) (t : List ℕ) → at + length t ≤ length b → length (written b at t) ≡ length b
unfolding written
length-written b at t h = rw (length-append, length-append, length-drop, length-take-le at b (omega arith)) (omega arith)

-- one byte written is a store
pub written_one : (b : List ℕ) (at v : ℕ) → at < length b → set b at v ≡ written b at (v ∷ [])
unfolding written
written_one b at v h = rw add-one (set_split b at v h)

-- a store, and then a text right before it
pub written_back : (b : List ℕ) (at : ℕ) (t : List ℕ) (v : ℕ) → at + length t < length b
    → written (set b (at + length t) v) at t ≡ written b at (t ++ (v ∷ []))
unfolding written
written_back b at t v h =
    let back : drop (at + length t) (set b (at + length t) v) ≡ v ∷ drop (suc (at + length t)) b =
    rw (set_split b (at + length t) v h) (drop_at (take (at + length t) b) (v ∷ drop (suc (at + length t)) b) (at + length t) (length-take-le (at + length t) b (omega arith))) in
    rw (take-set-le at b (at + length t) v (omega arith), back, length-append, append_snoc, ← add_assoc at (length t) 1, add-one)

-- the bytes of a part of the buffer, overwritten
pub written_part : (b : List ℕ) (at : ℕ) {k : ℕ} (t : List ℕ) {u : List ℕ} → u ≡ t → k ≡ length t → put_mid at k b u ≡ written b at t
unfolding written
written_part b at t e k = rw (e, k, drop-drop)

-- a loop that copies s over d, byte by byte: t is what stands there after n turns
pub record Copied (s d : List ℕ) (n : ℕ) (t : List ℕ) : Type 0 where
  pub bytes : t ≡ take n s ++ drop n d

pub copied_more : {s d t : List ℕ} (n : ℕ) → Copied s d n t → n < length s → n < length d → Copied s d (n + 1) (set t n (get_or s n 0))
copied_more {s} {d} n h left within = record { bytes = rw h.bytes (simp zero-add at (paste_more d 0 s n 0 (omega arith) left)) }

-- all of d is overwritten
pub copied_all : {s d t : List ℕ} (n : ℕ) → Copied s d n t → n ≡ length s → length d ≤ n → t ≡ s
copied_all {s} {d} n h whole over = h.bytes ∙ rw (take_all n s (omega arith), drop_of_length-le d {i = n} over, append-nil)
