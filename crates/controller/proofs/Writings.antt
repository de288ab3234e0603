-- The laws of writing: which of 18 and 17 is answered when, and what stands in the buffer. Assumes nothing.
use Prim.Native.Nat.{ℕ, ◌+◌, ◌≤◌}
use mathlib.Core.List.{List, ◌++◌}
use mathlib.Core.Bool.{true, false}
use mathlib.Core.Path.{◌≡◌, refl, ap, ◌∙◌}
use mathlib.Core.Logic.{◌⊎◌, inl, inr, ⊎_elim}
use native.Mathlib.Omega.{arith}
use lib.ListN.{length, take, drop}
use Rattle.certificate.specs.declared.Report.{Report}
use Rattle.certificate.specs.Checks.{report_with, refusal}
use Rattle.certificate.proofs.Tests.{need_pass, need_fail}
use Rattle.certificate.proofs.Says.{tests-say}
use Rattle.judging.proofs.Deciding.{Tells, tells_split, tells_false}
use Rattle.controller.specs.declared.Controller.{Controller}
use Rattle.controller.specs.State.{stored, is_certificate}
use Rattle.controller.specs.Write.{has_room, write_report_of, write_buffer_of, write_report, write_buffer}
use Rattle.controller.specs.Laws.{HoldsCertificate, RoomFor, WriteEmpty, WriteShort, WriteSucceeds, WriteDone, WriteRefused, WriteNumbers}
use Rattle.controller.proofs.Holding.{holds_is_plain}

module _ (bytes : List ℕ) (n : ℕ) (buffer : List ℕ) (start : ℕ) where
  room_tells : Tells (has_room n buffer start) (start + n ≤ length buffer)
  unfolding has_room
  room_tells = simp tests-say (omega arith)

  -- the three ways that a write goes
  pub wrote : is_certificate bytes n ≡ true → start + n ≤ length buffer
      → (write_report_of bytes n buffer start ≡ report_with 0 n 0 0) × (write_buffer_of bytes n buffer start ≡ take start buffer ++ (take n bytes ++ drop (start + n) buffer))
  unfolding write_report_of write_buffer_of
  wrote h r =
      let e : write_report_of bytes n buffer start ≡ report_with 0 n 0 0 = need_pass _ _ _ h ∙ need_pass _ _ _ (room_tells.1 r) in
      (e, rw e)

  pub too_short : is_certificate bytes n ≡ true → (start + n ≤ length buffer → ⊥)
      → (write_report_of bytes n buffer start ≡ refusal 17 0) × (write_buffer_of bytes n buffer start ≡ buffer)
  unfolding write_report_of write_buffer_of
  too_short h bad =
      let e : write_report_of bytes n buffer start ≡ refusal 17 0 = need_pass _ _ _ h ∙ need_fail _ _ _ (tells_false _ room_tells bad) in
      (e, rw e)

  pub none_held : is_certificate bytes n ≡ false → (write_report_of bytes n buffer start ≡ refusal 18 0) × (write_buffer_of bytes n buffer start ≡ buffer)
  unfolding write_report_of write_buffer_of
  none_held bad =
      let e : write_report_of bytes n buffer start ≡ refusal 18 0 = need_fail _ _ _ bad in
      (e, rw e)

module _ (c : Controller) (buffer : List ℕ) (start : ℕ) where
  -- the same of a state's write
  done_by : HoldsCertificate c → RoomFor c buffer start
      → (write_report c buffer start ≡ report_with 0 c.len 0 0) × (write_buffer c buffer start ≡ take start buffer ++ (stored c ++ drop (start + c.len) buffer))
  done_by h r = wrote c.bytes c.len buffer start ((holds_is_plain c).1 h) r

  short_of : HoldsCertificate c → (RoomFor c buffer start → ⊥) → (write_report c buffer start ≡ refusal 17 0) × (write_buffer c buffer start ≡ buffer)
  short_of h bad = too_short c.bytes c.len buffer start ((holds_is_plain c).1 h) bad

  empty_of : (HoldsCertificate c → ⊥) → (write_report c buffer start ≡ refusal 18 0) × (write_buffer c buffer start ≡ buffer)
  empty_of bad = none_held c.bytes c.len buffer start (tells_false _ (holds_is_plain c) bad)

  -- what holds of each of the three holds of a write
  by_way : (P : Report → List ℕ → Type 0)
      → (HoldsCertificate c → RoomFor c buffer start → P (report_with 0 c.len 0 0) (take start buffer ++ (stored c ++ drop (start + c.len) buffer)))
      → (HoldsCertificate c → (RoomFor c buffer start → ⊥) → P (refusal 17 0) buffer)
      → ((HoldsCertificate c → ⊥) → P (refusal 18 0) buffer)
      → P (write_report c buffer start) (write_buffer c buffer start)
  by_way P done short none = ⊎_elim held (λ bad. let w = empty_of bad in rw (w.0, w.1) (none bad)) (tells_split _ (holds_is_plain c))
    where
      held : HoldsCertificate c → P (write_report c buffer start) (write_buffer c buffer start)
      held h =
          ⊎_elim
          (λ r. let w = done_by h r in rw (w.0, w.1) (done h r))
          (λ bad. let w = short_of h bad in rw (w.0, w.1) (short h bad))
          (tells_split _ (room_tells c.bytes c.len buffer start))

number_of : {r f : Report} → r ≡ f → r.number ≡ f.number
number_of e = ap (λ (r : Report). r.number) e

pub write_empty : WriteEmpty
write_empty c b i = (
  by_way c b i (λ r _. r.number ≡ 18 → HoldsCertificate c → ⊥) (λ h r e. absurd (omega arith)) (λ h bad e. absurd (omega arith)) (λ bad e. bad),
  (λ bad. number_of (empty_of c b i bad).0),
)

pub write_short : WriteShort
write_short c b i = (
  by_way c b i (λ r _. r.number ≡ 17 → HoldsCertificate c × (RoomFor c b i → ⊥)) (λ h r e. absurd (omega arith)) (λ h bad e. (h, bad)) (λ bad e. absurd (omega arith)),
  (λ h. number_of (short_of c b i h.0 h.1).0),
)

pub write_succeeds : WriteSucceeds
write_succeeds c b i = (
  by_way c b i (λ r _. r.number ≡ 0 → HoldsCertificate c × RoomFor c b i) (λ h r e. (h, r)) (λ h bad e. absurd (omega arith)) (λ bad e. absurd (omega arith)),
  (λ h. number_of (done_by c b i h.0 h.1).0),
)

pub write_done : WriteDone
write_done c b i = by_way c b i (λ r w. r.number ≡ 0 → (r ≡ report_with 0 c.len 0 0) × (w ≡ take i b ++ (stored c ++ drop (i + c.len) b)))
    (λ _ _ _. (refl, refl)) (λ _ _ e. absurd (omega arith)) (λ _ e. absurd (omega arith))

pub write_refused : WriteRefused
write_refused c b i = by_way c b i (λ r w. (r.number ≡ 0 → ⊥) → (r ≡ refusal r.number 0) × (w ≡ b))
    (λ _ _ bad. absurd (bad refl)) (λ _ _ _. (refl, refl)) (λ _ _. (refl, refl))

pub write_numbers : WriteNumbers
write_numbers c b i = by_way c b i (λ r _. ((r.number ≡ 0) ⊎ ((r.number ≡ 17) ⊎ (r.number ≡ 18))) × (r.a ≤ length b))
    (λ _ r. (inl refl, omega arith)) (λ _ _. (inr (inl refl), omega arith)) (λ _. (inr (inr refl), omega arith))
