-- A certificate that passes the tests before 12 is readable, meets conditions 10 and 11, and is sound under each signal. Assumes nothing.
use Prim.Native.Nat.{ℕ, ◌*◌, ◌-◌, ◌≤◌, ◌<◌}
use mathlib.Core.List.{List}
use mathlib.Core.Bool.{Bool}
use mathlib.Core.Path.{◌≡◌, sym, ap}
use mathlib.Core.Logic.{⊎_elim, ◌↔◌}
use native.Mathlib.Omega.{arith}
use borrow.Author.Tests.{leb-true, le-leb}
use Rattle.certificate.specs.Loops.{pick}
use Rattle.certificate.specs.Layout.{links_of, turns_of, signals_of, cap_of, flow_of, start_flow_of, from_of, to_of, pull_of, shown_before, mode_of, signal_of}
use Rattle.certificate.specs.Reading.{reading_of}
use Rattle.certificate.specs.Facts.{Readable}
use Rattle.certificate.proofs.Plain.{readable_of, of_readable}
use Rattle.certificate.proofs.Tests.{need_both, need_pass, or_both, both_or, all_fine, fine_all}
use Rattle.network.specs.Network.{network_of, is_green}
use Rattle.network.specs.Conditions.{pull_sum, pull_fault, signal_pulls_fault, pulls_fault, room_ok, room_fault, rooms_fault, screening_of}
use Rattle.network.specs.Sound.{Joined}
use Rattle.network.specs.Laws.{Screened, ScreeningIsPlain, ScreenedIsSound, EntryIsSound}
use Rattle.network.proofs.Limiting.{limit_most}

-- pairs (from, to) ascend, so none stands twice
apart : (s : List ℕ) → Readable s → (t u : ℕ) → t < u → u < turns_of s → from_of s t ≡ from_of s u → to_of s t ≡ to_of s u → ⊥
apart s R t u lt lu f g = ⊎_elim (λ h. omega arith) (λ h. omega arith) (R.turns_ascend t u lt lu)

one_turn : (s : List ℕ) → Readable s → (t u : ℕ) → t < turns_of s → u < turns_of s → from_of s t ≡ from_of s u → to_of s t ≡ to_of s u → t ≡ u
one_turn s R t u lt lu f g =
    let not_below : t < u → ⊥ = λ h. apart s R t u h lu f g in
    let not_above : u < t → ⊥ = λ h. apart s R u t h lt (sym f) (sym g) in
    omega arith

pub joins_of : (s : List ℕ) → Readable s → Joined (network_of s)
joins_of s R =
    record {
      from_link = λ t lt. (R.turn t lt).from_link;
      to_link = λ t lt. (R.turn t lt).to_link;
      joined = λ t lt. (R.turn t lt).joined;
      no_loop = λ l hl. (R.link l hl).no_loop;
      one_turn = one_turn s R;
    }

pub sound_of : ScreenedIsSound
sound_of s C h g hg =
    record {
      joins = joins_of s C.readable;
      pulls = λ l hl. C.pulls g l hg hl;
      room = C.room;
      red = λ l hl e. ap (λ (q : Bool). pick q (pick (is_green s h l) (flow_of s l) (start_flow_of s l)) 0) e;
      most = λ l hl. limit_most s C.readable h g l hl;
    }

pub entry_sound : EntryIsSound
entry_sound s C e he = sound_of s C (shown_before s (mode_of s e)) (signal_of s e) (C.readable.entry e he).signal

-- condition 10, tested for every signal and link
abbrev pub PullsFit : List ℕ → Type 0
PullsFit s = (g l : ℕ) → g < signals_of s → l < links_of s → pull_sum (network_of s) (is_green s g) l ≤ 10000

pub pulls_plain : (s : List ℕ) → ((pulls_fault s).number ≡ 0) ↔ PullsFit s
unfolding pulls_fault signal_pulls_fault pull_fault
pulls_plain s = (each, all)
  where
    each : (pulls_fault s).number ≡ 0 → PullsFit s
    each e g l hg hl = leb-true _ _ (need_both _ _ _ (λ z. omega arith) (all_fine _ (pull_fault s g) (all_fine _ (signal_pulls_fault s) e g hg) l hl)).0

    all : PullsFit s → (pulls_fault s).number ≡ 0
    all h = rw (fine_all (signals_of s) (signal_pulls_fault s) (λ g hg. rw (fine_all (links_of s) (pull_fault s g) (λ l hl. rw (need_pass _ _ _ (le-leb _ _ (h g l hg hl)))))))

-- condition 11, tested for every turn
abbrev pub RoomLeft : List ℕ → Type 0
RoomLeft s = (t : ℕ) → t < turns_of s → 100 * flow_of s (from_of s t) ≤ pull_of s t * (cap_of s (to_of s t) - flow_of s (to_of s t))

pub rooms_plain : (s : List ℕ) → ((rooms_fault s).number ≡ 0) ↔ RoomLeft s
unfolding rooms_fault room_fault room_ok
rooms_plain s = (each, all)
  where
    each : (rooms_fault s).number ≡ 0 → RoomLeft s
    each e t lt = leb-true _ _ (need_both _ _ _ (λ z. omega arith) (all_fine _ (room_fault s) e t lt)).0

    all : RoomLeft s → (rooms_fault s).number ≡ 0
    all h = rw (fine_all (turns_of s) (room_fault s) (λ t lt. rw (need_pass _ _ _ (le-leb _ _ (h t lt)))))

-- the tests before 12 pass exactly if all of this holds
pub screening_is_plain : ScreeningIsPlain
unfolding screening_of
screening_is_plain s = (facts, passes)
  where
    facts : (screening_of s).number ≡ 0 → Screened s
    facts e =
        let first = or_both (reading_of s) _ e in
        let rest = or_both (pulls_fault s) (rooms_fault s) first.1 in
        record {
          readable = readable_of s first.0;
          pulls = (pulls_plain s).0 rest.0;
          room = (rooms_plain s).0 rest.1;
        }

    passes : Screened s → (screening_of s).number ≡ 0
    passes C = both_or _ _ (of_readable s C.readable) (both_or _ _ ((pulls_plain s).1 C.pulls) ((rooms_plain s).1 C.room))
