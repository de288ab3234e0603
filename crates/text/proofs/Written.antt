-- Texts that a writer puts one after another: all of them at once. Assumes nothing.
use mathlib.Core.Path.{◌≡◌, refl, sym, ◌∙◌}
use mathlib.Core.List.{List, [], ◌++◌}
use Prim.Native.Nat.{ℕ, ◌+◌, ◌≤◌}
use native.Mathlib.Omega.{arith}
use lib.ListN.{length, length-append}
use Rattle.text.specs.declared.Writer.{Writer}
use Rattle.text.specs.Writing.{HasRoom, Writes}
use Rattle.text.proofs.Placing.{written_none, written-append, length-written}

-- a text in two parts has room: its first part does
pub room_first : (w : Writer) {t : List ℕ} (u : List ℕ) → HasRoom w (t ++ u) → HasRoom w t
room_first w {t} u h = record { fits = omega (arith, length-append t u, h.fits) }

module _ {w w₁ : Writer} {t : List ℕ} (written : Writes w t w₁) where
  -- where there was room for more, the rest of it is left
  pub room_left : (u T : List ℕ) → length t + length u ≤ length T → HasRoom w T → HasRoom w₁ u
  room_left u T part h =
      let same : length w₁.buffer.now ≡ length w.buffer.now = rw written.put.bytes (length-written w.buffer.now w.at t (omega (arith, h.fits))) in
      record { fits = omega (arith, h.fits, written.put.place) }

  -- another text right after it
  pub then : {w₂ : Writer} {u : List ℕ} → w.at ≤ length w.buffer.now → Writes w₁ u w₂ → Writes w (t ++ u) w₂
  then {w₂} {u} within next =
      let both = written-append w.buffer.now w.at t u within in
      record {
        same_buffer = next.same_buffer ∙ written.same_buffer;
        put = record { bytes = next.put.bytes ∙ rw (written.put.bytes, written.put.place) both; place = rw length-append (omega (arith, next.put.place, written.put.place)) };
      }

-- nothing is put
pub writes_none : (w : Writer) → Writes w [] w
writes_none w = record { same_buffer = refl; put = record { bytes = sym (written_none w.buffer.now w.at); place = omega arith } }

-- a writer that began to put a text, and what is still to be put of it
pub record Rest (start : Writer) (text : List ℕ) (now : Writer) (rest : List ℕ) : Type 0 where
  pub room : HasRoom now rest
  pub whole : (end : Writer) → Writes now rest end → Writes start text end

pub rest_start : (w : Writer) (T : List ℕ) → HasRoom w T → Rest w T w T
rest_start w T h = record { room = h; whole = λ end p. p }

module _ {start now : Writer} {T : List ℕ} where
  -- the first part of the rest is put
  pub rest_next : {next : Writer} {t u : List ℕ} → Rest start T now (t ++ u) → Writes now t next → Rest start T next u
  rest_next {t = t} {u = u} r p =
      record {
        room = room_left p u (t ++ u) (omega (arith, length-append t u)) r.room;
        whole = λ end q. r.whole end (then p (omega (arith, r.room.fits)) q);
      }

  -- the last part is
  pub rest_last : {end : Writer} {t : List ℕ} → Rest start T now t → Writes now t end → Writes start T end
  rest_last r p = r.whole _ p
