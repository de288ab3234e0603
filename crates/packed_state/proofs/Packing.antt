-- The copies between a state and its bytes, what a slice holds by its length, and a lent state after a call. Assumes nothing.
use Rattle.std.proofs.Common.{◌≡◌, ◌+◌, ◌<◌, ltb, ℕ, List, [], ◌∷◌, ◌++◌, Bool, true, false, w64, length, take, drop, get_or, refl, sym, ap, ◌∙◌, arith, length-drop}
use Rattle.std.proofs.Math.ListN.{set}
use Rattle.std.proofs.Math.Seq.{drop_at}
use Rattle.std.proofs.lemmas.List.{take_at, take-append-drop, length-take, get_or_past, set-append_right}
use Rattle.std.proofs.lemmas.Nat.{be_bytes_8}
use mathlib.Core.Bool.{not}
use borrow.Author.Tests.{eq-eqb, ne_eqb, eqb-true, eqb-false, ltb-true, ltb-false}
use Rattle.certificate.specs.Layout.{max_length}
use Rattle.certificate.specs.Octets.{byte_at}
use Rattle.certificate.specs.Checks.{refusal, fine, need}
use Rattle.controller.specs.declared.Controller.{Controller}
use Rattle.controller.specs.State.{fresh_state, in_mode}
use Rattle.octets.proofs.Cases.{not_yes, not_no}
use Rattle.octets.proofs.Outcomes.{need_holds}
use Rattle.std.specs.Int.{to_be_bytes}
use Rattle.packed_state.proofs.Octets.{tail_is, eight_is, byte_in}
use Rattle.packed_state.specs.State.{length_size, state_tail_size, state_mode_at, state_size, has_state_size, eight_at, state_of, held_in, state_tail, state_bytes, bytes_after}

-- one element is set
only : (l : List ℕ) (x : ℕ) → length l ≡ 1 → set l 0 x ≡ x ∷ []
only [] x h = absurd (omega arith)
only (y ∷ []) x h = refl
only (y ∷ z ∷ l) x h = absurd (omega arith)

-- the array, the bytes of the length and the mode, put one after another over a state's bytes
pub packed : (held : Controller) (st front len : List ℕ) → length held.bytes ≡ max_length → length st ≡ state_size → front ≡ held.bytes → len ≡ to_be_bytes w64 held.len
    → set (take max_length (front ++ drop max_length st) ++ (len ++ drop length_size (drop max_length (front ++ drop max_length st)))) state_mode_at held.mode ≡ state_bytes held
unfolding state_bytes
packed held st front len b s f l =
    let rest = drop max_length st in
    let last : length (drop length_size rest) ≡ 1 = omega (arith, length-drop length_size rest, length-drop max_length st) in
    rw (f, take_at held.bytes rest max_length b, drop_at held.bytes rest max_length b, l)
    (set-append_right held.bytes (to_be_bytes w64 held.len ++ drop length_size rest) max_length state_mode_at held.mode b (omega arith)
    ∙ ap (λ (l : List ℕ). held.bytes ++ l) (set-append_right (to_be_bytes w64 held.len) (drop length_size rest) length_size length_size held.mode refl (omega arith)
    ∙ ap (λ (l : List ℕ). to_be_bytes w64 held.len ++ l) (only _ held.mode last) ∙ sym (tail_is held.len held.mode)))

-- a test of the size that had the outcome r, in `if !r`
pub is_state : (s : List ℕ) (r : Bool) → r ≡ has_state_size s → not r ≡ false → length s ≡ state_size
is_state s r e left = eqb-true _ _ (not_no r _ e left)

pub is_none : (s : List ℕ) (r : Bool) → r ≡ has_state_size s → not r ≡ true → length s ≡ state_size → ⊥
is_none s r e taken = eqb-false _ _ (not_yes r _ e taken)

-- a test of the size that passed, as `require` makes it
pub state_fits : (s : List ℕ) → fine ≡ need (has_state_size s) (refusal 18 0) fine → length s ≡ state_size
state_fits s fits = eqb-true _ _ (need_holds _ 17 0 fits)

-- what a slice holds, by its length
pub right_length : (s : List ℕ) → length s ≡ state_size → held_in s ≡ state_of s
unfolding held_in
right_length s h = rw (eq-eqb (length s) state_size h)

pub other_length : (s : List ℕ) → (length s ≡ state_size → ⊥) → held_in s ≡ fresh_state
unfolding held_in
other_length s h = rw (ne_eqb (length s) state_size h)

-- a state made of the parts that bytes of the right length say
pub made : (s b : List ℕ) (len mode : ℕ) → length s ≡ state_size → b ≡ take max_length s → len ≡ eight_at s max_length → mode ≡ byte_at s state_mode_at
    → ◌≡◌ {A = Controller} (record { bytes = b; len = len; mode = mode }) (held_in s)
unfolding state_of
made s b len mode h p q r = cc (right_length s h)

-- a lent state's bytes after a refusal, and after a success
pub refusal_keeps : (number : ℕ) (next : Controller) (state : List ℕ) → (number ≡ 0 → ⊥) → state ≡ bytes_after number next state
unfolding bytes_after
refusal_keeps number next state bad = rw (ne_eqb number 0 bad)

pub success_passes : (number : ℕ) (next : Controller) (state after : List ℕ) → number ≡ 0 → after ≡ state_bytes next → after ≡ bytes_after number next state
unfolding bytes_after
success_passes number next state after z e = rw (eq-eqb number 0 z) e

-- the mode alone, put over a state's bytes: the array stays, and so does the length, whose bytes are those that the library writes
module _ (s : List ℕ) (mode : ℕ) (h : length s ≡ state_size) (small : (i : ℕ) → get_or s i 0 < 256) where
  abbrev rest : List ℕ
  rest = drop max_length s

  abbrev len : List ℕ
  len = take length_size rest

  long : length rest ≡ state_tail_size
  long = omega (arith, length-drop max_length s, h)

  sized : length len ≡ length_size
  sized = omega (arith, length-take length_size rest, long)

  last : length (drop length_size rest) ≡ 1
  last = omega (arith, length-drop length_size rest, long)

  bytes_small : (i : ℕ) → get_or len i 0 < 256
  bytes_small i = go (ltb i length_size) refl
    where
      go : (b : Bool) → ltb i length_size ≡ b → get_or len i 0 < 256
      go true lt = rw (byte_in s len max_length length_size refl i (max_length + i) (ltb-true _ _ lt) refl) (small (max_length + i))
      go false more = rw (get_or_past len i 0 (omega (arith, sized, ltb-false _ _ more))) (omega arith)

  len_stays : to_be_bytes w64 (eight_at s max_length) ≡ len
  len_stays = be_bytes_8 len _ sized bytes_small (sym (eight_is s rest len max_length _ refl refl refl))

  pub passed : set s state_mode_at mode ≡ state_bytes (in_mode (held_in s) mode)
  unfolding state_bytes state_of
  passed =
      let front : length (take max_length s) ≡ max_length = omega (arith, length-take max_length s, h) in
      let tail : set rest length_size mode ≡ state_tail (eight_at s max_length) mode =
      ap (λ (l : List ℕ). set l length_size mode) (sym (take-append-drop length_size rest))
      ∙ set-append_right len (drop length_size rest) length_size length_size mode sized (omega arith)
      ∙ ap (λ (l : List ℕ). len ++ l) (only _ mode last)
      ∙ ap (λ (l : List ℕ). l ++ (mode ∷ [])) (sym len_stays)
      ∙ sym (tail_is _ mode) in
      rw (right_length s h)
      (ap (λ (l : List ℕ). set l state_mode_at mode) (sym (take-append-drop max_length s))
      ∙ set-append_right (take max_length s) rest max_length state_mode_at mode front (omega arith)
      ∙ ap (λ (l : List ℕ). take max_length s ++ l) tail)
