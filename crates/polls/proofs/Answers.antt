-- The laws of a poll of a state: which number is answered when, and what is shown. Assumes nothing.
use Prim.Native.Nat.{ℕ}
use mathlib.Core.List.{List}
use mathlib.Core.Logic.{◌↔◌, ◌⊎◌, inl, inr, ⊎_elim}
use mathlib.Core.Path.{◌≡◌, refl, sym, ap, ◌∙◌}
use native.Mathlib.Omega.{arith}
use borrow.Author.Tests.{ne_eqb}
use Rattle.certificate.specs.declared.Report.{Report}
use Rattle.certificate.specs.Checks.{refusal, fine}
use Rattle.certificate.proofs.Tests.{need_pass, need_fail}
use Rattle.judging.proofs.Deciding.{tells_false, tells_split}
use Rattle.runs.proofs.Lookup.{finds_entry}
use Rattle.controller.specs.declared.Controller.{Controller}
use Rattle.controller.specs.declared.Shown.{Shown}
use Rattle.controller.specs.State.{in_mode, stored}
use Rattle.controller.specs.Query.{showing, refused}
use Rattle.controller.specs.Laws.{HoldsCertificate, ShowsExisting}
use Rattle.controller.proofs.Holding.{holds_is_plain}
use Rattle.detectors.specs.Polls.{polled_fault}
use Rattle.detectors.specs.Laws.{PollAnswer}
use Rattle.detectors.specs.Laws.PollAnswer.{improper, bad, silent, unlisted, passes}
use Rattle.detectors.proofs.Polled.{poll_is_plain, poll_answers}
use Rattle.detectors.proofs.Unread.{unread}
use Rattle.polls.specs.Poll.{poll_fault, entry_polled, poll_of}
use Rattle.polls.specs.Laws.{PollEmpty, PollImproper, PollBad, PollSilent, PollUnlisted, PollSucceeds, PollShows, PollExists, PollRefused, PollNumbers, PollUnread}

number_of : {f g : Report} → f ≡ g → f.number ≡ g.number
number_of e = ap (λ (r : Report). r.number) e

module _ (c : Controller) (p : List ℕ) where
  none_held : (HoldsCertificate c → ⊥) → poll_fault c p ≡ refusal 18 0
  unfolding poll_fault
  none_held h = need_fail _ _ _ (tells_false _ (holds_is_plain c) h)

  held : HoldsCertificate c → poll_fault c p ≡ polled_fault (stored c) c.mode p
  unfolding poll_fault
  held h = need_pass _ _ _ ((holds_is_plain c).1 h)

  -- a refusal and a success, shown
  turned_back : (n a : ℕ) → (n ≡ 0 → ⊥) → poll_fault c p ≡ refusal n a → poll_of c p ≡ refused c (refusal n a)
  unfolding poll_of
  turned_back n a some e = rw (e, ne_eqb n 0 some)

  succeeds : poll_fault c p ≡ fine → poll_of c p ≡ showing c (entry_polled c p)
  unfolding poll_of
  succeeds e = rw e

  -- what holds of each refusal and of success holds of a poll
  by_answer : (P : Shown → Type 0) → ((n a : ℕ) → (n ≡ 0 → ⊥) → poll_fault c p ≡ refusal n a → P (refused c (refusal n a)))
      → (poll_fault c p ≡ fine → P (showing c (entry_polled c p))) → P (poll_of c p)
  by_answer P refuses shows = ⊎_elim in_force (λ h. turns 18 0 (λ z. omega arith) (none_held h)) (tells_split _ (holds_is_plain c))
    where
      turns : (n a : ℕ) → (n ≡ 0 → ⊥) → poll_fault c p ≡ refusal n a → P (poll_of c p)
      turns n a some e = rw (turned_back n a some e) (refuses n a some e)

      by : (n a : ℕ) → PollAnswer (stored c) n a → poll_fault c p ≡ refusal n a → P (poll_of c p)
      by n a improper e = turns 16 0 (λ z. omega arith) e
      by n a (bad lt) e = turns 20 a (λ z. omega arith) e
      by n a (silent lt) e = turns 21 a (λ z. omega arith) e
      by n a unlisted e = turns 19 0 (λ z. omega arith) e
      by n a passes e = rw (succeeds e) (shows e)

      in_force : HoldsCertificate c → P (poll_of c p)
      in_force h = let w = poll_answers (stored c) c.mode p in by w.0 w.1.0 w.1.1.0 (held h ∙ w.1.1.1)

  report_is : (poll_of c p).report ≡ poll_fault c p
  report_is = by_answer (λ r. r.report ≡ poll_fault c p) (λ n a _ e. sym e) (λ e. sym e)

  -- an answer other than 18 is that of the poll's own tests
  own : (f : Report) {A : Type 0} → (f.number ≡ 18 → ⊥) → (polled_fault (stored c) c.mode p ≡ f) ↔ A → ((poll_of c p).report ≡ f) ↔ (HoldsCertificate c × A)
  own f {A} other says = (to, λ h. report_is ∙ held h.0 ∙ says.1 h.1)
    where
      to : (poll_of c p).report ≡ f → HoldsCertificate c × A
      to e =
          ⊎_elim
          (λ h. (h, says.0 (sym (held h) ∙ sym report_is ∙ e)))
          (λ h. absurd (other (sym (number_of (sym (none_held h) ∙ sym report_is ∙ e)))))
          (tells_split _ (holds_is_plain c))

pub poll_empty : PollEmpty
poll_empty c p = (to, λ h. report_is c p ∙ none_held c p h)
  where
    not_eighteen : (n a : ℕ) → PollAnswer (stored c) n a → n ≡ 18 → ⊥
    not_eighteen n a improper e = omega arith
    not_eighteen n a (bad lt) e = omega arith
    not_eighteen n a (silent lt) e = omega arith
    not_eighteen n a unlisted e = omega arith
    not_eighteen n a passes e = omega arith

    to : (poll_of c p).report ≡ refusal 18 0 → HoldsCertificate c → ⊥
    to e h =
        let w = poll_answers (stored c) c.mode p in
        not_eighteen w.0 w.1.0 w.1.1.0 (number_of (sym w.1.1.1 ∙ sym (held c p h) ∙ sym (report_is c p) ∙ e))

pub poll_improper : PollImproper
poll_improper c p = own c p (refusal 16 0) (λ z. omega arith) (poll_is_plain (stored c) c.mode p).improper

pub poll_bad : PollBad
poll_bad c p l = own c p (refusal 20 l) (λ z. omega arith) ((poll_is_plain (stored c) c.mode p).bad l)

pub poll_silent : PollSilent
poll_silent c p l = own c p (refusal 21 l) (λ z. omega arith) ((poll_is_plain (stored c) c.mode p).silent l)

pub poll_unlisted : PollUnlisted
poll_unlisted c p = own c p (refusal 19 0) (λ z. omega arith) (poll_is_plain (stored c) c.mode p).unlisted

pub poll_succeeds : PollSucceeds
poll_succeeds c p = own c p fine (λ z. omega arith) (poll_is_plain (stored c) c.mode p).passes

pub poll_shows : PollShows
poll_shows c p e h g i =
    let entry : entry_polled c p ≡ e = finds_entry (stored c) h.screened.readable _ _ e i.exists i.cell i.mode in
    succeeds c p (held c p h ∙ (poll_is_plain (stored c) c.mode p).passes.1 (g, (e, i))) ∙ rw entry

pub poll_exists : PollExists
poll_exists c p = by_answer c p (λ r. r.report.number ≡ 0 → ShowsExisting (stored c) r)
    (λ n a some _ z. absurd (some z))
    (λ e _. let h = (poll_succeeds c p).0 (report_is c p ∙ e) in
    let i = h.1.1.1 in
    let entry : entry_polled c p ≡ h.1.1.0 = finds_entry (stored c) h.0.screened.readable _ _ _ i.exists i.cell i.mode in
    let record_of = h.0.screened.readable.entry h.1.1.0 i.exists in
    rw entry (record { signal = record_of.signal; green = refl; mode = record_of.next_mode }))

pub poll_refused : PollRefused
poll_refused c p = by_answer c p (λ r. (r.report.number ≡ 0 → ⊥) → r ≡ refused c r.report) (λ _ _ _ _ _. refl) (λ _ z. absurd (z refl))

pub poll_numbers : PollNumbers
poll_numbers c p = ⊎_elim in_force (λ h. inl (report_is c p ∙ none_held c p h)) (tells_split _ (holds_is_plain c))
  where
    in_force : HoldsCertificate c → ((poll_of c p).report ≡ refusal 18 0) ⊎ ((number : ℕ) × ((a : ℕ) × (PollAnswer (stored c) number a × ((poll_of c p).report ≡ refusal number a))))
    in_force h = let w = poll_answers (stored c) c.mode p in inr (w.0, (w.1.0, (w.1.1.0, report_is c p ∙ held c p h ∙ w.1.1.1)))

-- a poll keeps all but the mode
pub poll_keeps : (c : Controller) (p : List ℕ) → (poll_of c p).state ≡ in_mode c (poll_of c p).state.mode
poll_keeps c p = by_answer c p (λ r. r.state ≡ in_mode c r.state.mode) (λ _ _ _ _. refl) (λ _. refl)

pub poll_unread : PollUnread
unfolding poll_of poll_fault
poll_unread c p q same = let w = unread (stored c) c.mode p q same in rw (w.0, w.1)
