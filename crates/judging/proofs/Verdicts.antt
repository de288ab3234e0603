-- The laws of the verdict (specs/Laws.antt). Assumes nothing.
use Prim.Native.Nat.{ℕ, ◌+◌, ◌*◌, ◌≤◌}
use mathlib.Core.List.{List}
use mathlib.Core.Path.{◌≡◌, refl, sym, ap, ◌∙◌}
use mathlib.Core.Logic.{◌↔◌, ◌⊎◌, inl, inr, ⊎_elim}
use native.Mathlib.Omega.{arith}
use lib.ListN.{take}
use lib.Seq.{take_all}
use Rattle.certificate.specs.declared.Report.{Report}
use Rattle.certificate.specs.Checks.{report_with, fine, or_else}
use Rattle.certificate.specs.Layout.{max_length, cells_of, boxes_of, entries_of}
use Rattle.certificate.specs.Reading.{reading_of}
use Rattle.certificate.proofs.Plain.{reading_is_plain}
use Rattle.certificate.proofs.Size.{readable_fits}
use Rattle.certificate.proofs.LongInput.{long_input}
use Rattle.certificate.proofs.Tests.{or_next, or_stop, both_or, passes}
use Rattle.certificate.specs.Laws.{ReadingNumber, up_to_nine}
use Rattle.certificate.proofs.Numbers.{of_reading, reading_numbers}
use Rattle.certificate.proofs.Refusals.{refusals}
use Rattle.network.specs.Conditions.{pulls_fault, rooms_fault, screening_of}
use Rattle.network.specs.Laws.{Screened}
use Rattle.network.proofs.Screening.{screening_is_plain}
use Rattle.judging.specs.EntryTests.{judging_from}
use Rattle.judging.specs.Verdict.{verdict_of}
use Rattle.judging.specs.Laws.{AcceptedIsPlain, AcceptedCount, CountFits, NumberFits, VerdictOfLong, RefusedReading, RefusedRecord, RefusedPull, RefusedRoom, RefusedUnsafe, RefusedRank, RefusedUnlisted, RefusedNotLower}
use Rattle.judging.proofs.EntryOutcomes.{unsafe_stops, rank_stops, judged_whole, judged_stops, judged_unlisted, judged_higher}
use Rattle.judging.proofs.Screens.{PullsFit, RoomsFit, pulls_fine, rooms_fine, pulls_refuse, rooms_refuse, pulls_split, rooms_split}
use Rattle.judging.proofs.Stages.{Stage, accepts, pull-high, room_small, cell-unsafe, rank-unfit, not_listed, not_lower, stage_number, Falls, Fallen, result_of, same_stage, stage_range, stage_apart, count_most}
use Rattle.judging.proofs.Outcome.{fallen_judged}

-- what refuses before judging is the verdict
screening_refuses : (s : List ℕ) (r : Report) → screening_of s ≡ r → (r.number ≡ 0 → ⊥) → verdict_of s ≡ r
unfolding verdict_of
screening_refuses s r e bad = or_stop (screening_of s) _ (λ z. bad (rw e at z)) ∙ e

screening_passes : (s : List ℕ) → (screening_of s).number ≡ 0 → verdict_of s ≡ judging_from s 0 0
unfolding verdict_of
screening_passes s z = or_next (screening_of s) _ z

reading_refuses : (s : List ℕ) → ((reading_of s).number ≡ 0 → ⊥) → verdict_of s ≡ reading_of s
unfolding screening_of
reading_refuses s bad = screening_refuses s (reading_of s) (or_stop (reading_of s) _ bad) bad

-- after reading come the pull sums, then the turns
screened_by : (s : List ℕ) → (reading_of s).number ≡ 0 → screening_of s ≡ or_else (pulls_fault s) (rooms_fault s)
unfolding screening_of
screened_by s read = or_next (reading_of s) _ read

-- the verdict of a certificate that passes the tests before 12
judged : (s : List ℕ) (r : Report) → Screened s → judging_from s 0 0 ≡ r → verdict_of s ≡ r
judged s r h e = screening_passes s ((screening_is_plain s).1 h) ∙ e

-- a stage that holds is the verdict
verdict_falls : (s : List ℕ) (k : Stage) (a b n : ℕ) → Falls s k a b n → verdict_of s ≡ report_with (stage_number k) a b n
verdict_falls s accepts a b n (h, all, za, zb, e) = rw (za, zb, e) (judged s _ h (judged_whole s h.readable all))
verdict_falls s pull-high a b n (p, e) =
    rw e (screening_refuses s _ (screened_by s p.read ∙ rw (pulls_refuse s a b p) (or_stop (report_with 10 a b 0) _ (λ z. omega arith))) (λ z. omega arith))
verdict_falls s room_small a b n (p, zb, e) =
    rw (zb, e) (screening_refuses s _ (screened_by s p.read ∙ rw (pulls_fine s p.pulls, rooms_refuse s a p) (or_next fine _ refl)) (λ z. omega arith))
verdict_falls s cell-unsafe a b n (r, bad, zb, e) =
    rw (zb, e) (judged s _ r.screened (judged_stops s r.screened.readable a _ r.entry r.before (unsafe_stops s r.screened.readable a bad)))
verdict_falls s rank-unfit a b n (r, safe, bad, zb, e) =
    rw (zb, e) (judged s _ r.screened (judged_stops s r.screened.readable a _ r.entry r.before (rank_stops s r.screened.readable a safe bad)))
verdict_falls s not_listed a b n (c, bad) = judged s _ c.reaches.screened (judged_unlisted s c.reaches.screened.readable a b n c bad)
verdict_falls s not_lower a b n (c, listed, bad) = judged s _ c.reaches.screened (judged_higher s c.reaches.screened.readable a b n c listed bad)

-- a certificate that reads falls at some stage
fallen : (s : List ℕ) → (reading_of s).number ≡ 0 → Fallen s
fallen s read = ⊎_elim after_pulls (λ p. record { stage = pull-high; a = p.0; b = p.1; count = 0; falls = (p.2, refl) }) (pulls_split s read)
  where
    screened : PullsFit s → RoomsFit s → Screened s
    screened pulls rooms = (screening_is_plain s).0 (rw (screened_by s read, pulls_fine s pulls, rooms_fine s rooms) (both_or fine fine refl refl))

    after_pulls : PullsFit s → Fallen s
    after_pulls pulls =
        ⊎_elim
        (λ rooms. fallen_judged s (screened pulls rooms))
        (λ t. record { stage = room_small; a = t.0; b = 0; count = 0; falls = (t.1, refl, refl) })
        (rooms_split s read pulls)

-- so a verdict is a refusal of reading or the result of a stage that holds
pub by_stage : (s : List ℕ) (P : Report → Type 0) → (((reading_of s).number ≡ 0 → ⊥) → P (reading_of s)) → ((f : Fallen s) → P (result_of s f)) → P (verdict_of s)
by_stage s P refused falls =
    ⊎_elim
    (λ read. let f = fallen s read in rw (verdict_falls s f.stage f.a f.b f.count f.falls) (falls f))
    (λ bad. rw (reading_refuses s bad) (refused bad))
    (passes (reading_of s))

-- the verdict is a stage's result exactly if that stage holds
stage_law : (s : List ℕ) (k : Stage) (a b n : ℕ) → (verdict_of s ≡ report_with (stage_number k) a b n) ↔ Falls s k a b n
stage_law s k a b n = (by_stage s (λ r. r ≡ report_with (stage_number k) a b n → Falls s k a b n) refused falls, verdict_falls s k a b n)
  where
    refused : ((reading_of s).number ≡ 0 → ⊥) → reading_of s ≡ report_with (stage_number k) a b n → Falls s k a b n
    refused bad e = absurd (stage_apart k _ (reading_numbers s) bad (ap (λ (r : Report). r.number) e))

    falls : (f : Fallen s) → result_of s f ≡ report_with (stage_number k) a b n → Falls s k a b n
    falls f e =
        let stage : f.stage ≡ k = same_stage _ _ (ap (λ (r : Report). r.number) e) in
        let place_a : f.a ≡ a = ap (λ (r : Report). r.a) e in
        let place_b : f.b ≡ b = ap (λ (r : Report). r.b) e in
        let count : f.count ≡ n = ap (λ (r : Report). r.count) e in
        rw (stage, place_a, place_b, count) at f.falls

-- what a result of number 0 says
accepted : (s : List ℕ) → (verdict_of s).number ≡ 0 → Falls s accepts (verdict_of s).a (verdict_of s).b (verdict_of s).count
accepted s z = (stage_law s accepts _ _ _).0 (ap (λ (n : ℕ). report_with n (verdict_of s).a (verdict_of s).b (verdict_of s).count) z)

pub accepted_is_plain : AcceptedIsPlain
accepted_is_plain s = (
  (λ z. let f = accepted s z in (f.0, f.1)),
  (λ h. ap (λ (r : Report). r.number) (verdict_falls s accepts 0 0 _ (h.0, h.1, refl, refl, refl))),
)

pub accepted_count : AcceptedCount
accepted_count s z = let f = accepted s z in verdict_falls s accepts 0 0 _ (f.0, f.1, refl, refl, refl)

pub count_fits : CountFits
count_fits s =
    by_stage s (λ r. r.count ≤ entries_of s * boxes_of s * cells_of s)
    (λ _. rw (of_reading s).no_count (omega arith))
    (λ f. count_most s f.stage f.a f.b f.count f.falls)

pub number_fits : NumberFits
number_fits s =
    by_stage s (λ r. ReadingNumber r.number ⊎ ((10 ≤ r.number) × (r.number ≤ 15)))
    (λ _. inl (reading_numbers s))
    (λ f. ⊎_elim (λ z. inl (rw z (up_to_nine (omega arith)))) inr (stage_range f.stage))

pub verdict_of_long : VerdictOfLong
verdict_of_long s = ⊎_elim reads refused (passes (reading_of s))
  where
    reads : (reading_of s).number ≡ 0 → verdict_of s ≡ verdict_of (take (max_length + 1) s)
    reads read = rw (take_all (max_length + 1) s (omega (arith, readable_fits s ((reading_is_plain s).0 read))))

    refused : ((reading_of s).number ≡ 0 → ⊥) → verdict_of s ≡ verdict_of (take (max_length + 1) s)
    refused bad = reading_refuses s bad ∙ long_input s ∙ sym (reading_refuses _ (rw (long_input s) at bad))

pub refused_reading : RefusedReading
refused_reading s r bad number = (by_stage s (λ v. v ≡ r → reading_of s ≡ r) (λ _ e. e) falls, (λ e. reading_refuses s (rw e bad) ∙ e))
  where
    falls : (f : Fallen s) → result_of s f ≡ r → reading_of s ≡ r
    falls f e = absurd (stage_apart f.stage _ number bad (sym (ap (λ (t : Report). t.number) e)))

pub refused_record : RefusedRecord
refused_record = refusals verdict_of refused_reading

pub refused_pull : RefusedPull
refused_pull s = stage_law s pull-high

pub refused_room : RefusedRoom
refused_room s = stage_law s room_small

pub refused_unsafe : RefusedUnsafe
refused_unsafe s = stage_law s cell-unsafe

pub refused_rank : RefusedRank
refused_rank s = stage_law s rank-unfit

pub refused_unlisted : RefusedUnlisted
refused_unlisted s = stage_law s not_listed

pub refused_not_lower : RefusedNotLower
refused_not_lower s = stage_law s not_lower
