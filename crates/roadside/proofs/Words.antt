-- The parts of an answer fit its number, and are read back from it. Assumes nothing.
use Prim.Native.Nat.{ℕ, ◌+◌, ◌*◌, ◌^◌, ◌≤◌, ◌<◌}
use mathlib.Core.Bool.{Bool, true, false}
use mathlib.Core.List.{List}
use mathlib.Core.Logic.{◌⊎◌, inl, inr, ⊎_elim}
use mathlib.Core.Path.{◌≡◌, refl, sym, ◌∙◌}
use native.Mathlib.Nat.{mul-le-mul, pow-le-pow_right, eq-or-lt_of_le}
use native.Mathlib.Omega.{arith}
use borrow.Author.Tests.{leb-true, leb-false}
use lib.Dec.{leb, lit<}
use lib.ListN.{length, take, length-take}
use Rattle.certificate.specs.declared.Report.{Report}
use Rattle.certificate.specs.Loops.{pick}
use Rattle.certificate.specs.Checks.{refusal, need}
use Rattle.certificate.specs.Layout.{max_length, links_of, signals_of, boxes_of, entries_of, cells_of, green_byte_of, signal_of}
use Rattle.certificate.specs.Facts.{Readable}
use Rattle.certificate.specs.Reading.{reading_of}
use Rattle.certificate.specs.Laws.{ReadingNumber, up_to_nine, of_order, of_memory, of_goal}
use Rattle.certificate.proofs.Tests.{passes}
use Rattle.certificate.proofs.Size.{cells_in_range}
use Rattle.certificate.proofs.Plain.{readable_of}
use Rattle.certificate.proofs.Numbers.{of_reading}
use Rattle.certificate.proofs.Places.{place_fits}
use Rattle.judging.specs.Verdict.{verdict_of}
use Rattle.judging.specs.Overflow.{overflows_of}
use Rattle.judging.proofs.Verdicts.{accepted_is_plain, count_fits, number_fits, verdict_of_long, refused_reading}
use Rattle.judging.proofs.Overflows.{refused_overflows, overflows_fit}
use Rattle.judging.proofs.PlaceBounds.{places_fit}
use Rattle.controller.specs.declared.Controller.{Controller}
use Rattle.controller.specs.declared.Shown.{Shown}
use Rattle.controller.specs.State.{stored}
use Rattle.controller.specs.Query.{showing, refused, query_of}
use Rattle.controller.specs.Laws.{HoldsCertificate}
use Rattle.controller.proofs.Lookups.{by_way}
use Rattle.packed_state.specs.State.{has_state_size, held_in}
use Rattle.held_state.specs.Held.{load_report, load_overflows, display_of}
use Rattle.detectors.specs.Laws.{PollAnswer}
use Rattle.detectors.specs.Laws.PollAnswer.{improper, bad, silent, unlisted, passes as succeeds}
use Rattle.polls.specs.Poll.{poll_of}
use Rattle.polls.proofs.Answers.{poll_bad, poll_silent, poll_succeeds, poll_shows, poll_refused, poll_numbers}
use Rattle.answer_words.specs.Words.{DisplayFits, LoadFits}
use Rattle.answer_words.proofs.Parts.{display_reads_back, verdict_reads_back}
use Rattle.roadside.specs.Laws.{PollWord, QueryWord, LoadWord}

-- ---- a load

-- the parts of a report, each by itself
record ReportFits (r : Report) : Type 0 where
  number : r.number < 256
  place_a : r.a < 65536
  place_b : r.b < 4096
  count : r.count < 268435456

reading_small : (n : ℕ) → ReadingNumber n → n < 256
reading_small n (up_to_nine h) = omega arith
reading_small n (of_order e) = omega arith
reading_small n (of_memory e) = omega arith
reading_small n (of_goal e) = omega arith

-- the entries, boxes and cells of a readable certificate
count_small : (s : List ℕ) → Readable s → entries_of s * boxes_of s * cells_of s < 268435456
count_small s R =
    let first : entries_of s * boxes_of s ≤ 4096 * 8 = mul-le-mul R.header.entries_most R.header.boxes_most in
    let all : entries_of s * boxes_of s * cells_of s ≤ 4096 * 8 * 4096 = mul-le-mul first (cells_in_range s R).1 in
    omega arith

-- a number of 10 to 15 is 10, 11, 12 or 13, 14 or 15
stages : (n : ℕ) → 10 ≤ n → n ≤ 15 → (n ≡ 10) ⊎ ((n ≡ 11) ⊎ (((12 ≤ n) × (n ≤ 13)) ⊎ ((14 ≤ n) × (n ≤ 15))))
stages n least most = ⊎_elim (λ e. inl (sym e)) (λ lt. inr (⊎_elim (λ e. inl (sym e)) (λ l. inr (last l)) (eq-or-lt_of_le lt))) (eq-or-lt_of_le least)
  where
    last : 11 < n → ((12 ≤ n) × (n ≤ 13)) ⊎ ((14 ≤ n) × (n ≤ 15))
    last l = go (leb n 13) refl
      where
        go : (b : Bool) → leb n 13 ≡ b → ((12 ≤ n) × (n ≤ 13)) ⊎ ((14 ≤ n) × (n ≤ 15))
        go true e = inl (l, leb-true n 13 e)
        go false e = inr (leb-false n 13 e, most)

-- of bytes that are not much longer than a certificate
module _ (s : List ℕ) (short : length s ≤ max_length + 1) where
  read_fits : Readable s → ReportFits (verdict_of s)
  read_fits R = ⊎_elim reading later (number_fits s)
    where
      fits : (verdict_of s).number < 256 → (verdict_of s).a < 65536 → (verdict_of s).b < 4096 → ReportFits (verdict_of s)
      fits n a b = record { number = n; place_a = a; place_b = b; count = omega (arith, count_small s R, count_fits s) }

      reading : ReadingNumber (verdict_of s).number → ReportFits (verdict_of s)
      reading number =
          let p = (places_fit s).reading number in
          fits (reading_small _ number) (omega (arith, p.0)) (omega (arith, p.1))

      later : (10 ≤ (verdict_of s).number) × ((verdict_of s).number ≤ 15) → ReportFits (verdict_of s)
      later (least, most) =
          let small : (verdict_of s).number < 256 = omega arith in
          let header = R.header in
          ⊎_elim
          (λ e. let p = (places_fit s).pull e in fits small (omega (arith, p.0, header.signals_most)) (omega (arith, p.1, header.links_most)))
          (λ w. ⊎_elim
          (λ e. let p = (places_fit s).room e in fits small (omega (arith, p.0, header.turns_most)) (omega (arith, p.1)))
          (λ v. ⊎_elim
          (λ (r : (12 ≤ (verdict_of s).number) × ((verdict_of s).number ≤ 13)). let p = (places_fit s).entry r.0 r.1 in fits small (omega (arith, p.0, header.entries_most)) (omega (arith, p.1)))
          (λ (r : (14 ≤ (verdict_of s).number) × ((verdict_of s).number ≤ 15)). let p = (places_fit s).successor r.0 r.1 in
          fits small (omega (arith, p.0, header.entries_most)) (omega (arith, p.1, (cells_in_range s R).1)))
          v)
          w)
          (stages (verdict_of s).number least most)

  refused_fits : ((reading_of s).number ≡ 0 → ⊥) → ReportFits (verdict_of s)
  refused_fits some =
      let r = of_reading s in
      rw ((refused_reading s (reading_of s) some r.number).1 refl)
      (record {
        number = reading_small _ r.number;
        place_a = omega (arith, (place_fits s).0);
        place_b = omega (arith, (place_fits s).1);
        count = omega (arith, r.no_count);
      })

  short_fits : ReportFits (verdict_of s)
  short_fits = ⊎_elim (λ z. read_fits (readable_of s z)) refused_fits (passes (reading_of s))

report_fits : (s : List ℕ) → ReportFits (verdict_of s)
report_fits s = rw (verdict_of_long s) (short_fits (take (max_length + 1) s) (omega (arith, length-take (max_length + 1) s)))

-- with the number of entries, which only an acceptance has, and it no place A
verdict_fits : (s : List ℕ) → LoadFits (verdict_of s) (overflows_of s)
verdict_fits s =
    record {
      number = (report_fits s).number;
      place_a = ⊎_elim together alone (passes (verdict_of s));
      place_b = (report_fits s).place_b;
      count = (report_fits s).count;
      accepted = λ z. ((places_fit s).accepted z).0;
      refused = refused_overflows s;
    }
  where
    together : (verdict_of s).number ≡ 0 → (verdict_of s).a + overflows_of s < 65536
    together z = omega (arith, ((places_fit s).accepted z).0, overflows_fit s, ((accepted_is_plain s).0 z).0.readable.header.entries_most)

    alone : ((verdict_of s).number ≡ 0 → ⊥) → (verdict_of s).a + overflows_of s < 65536
    alone nonzero = omega (arith, (report_fits s).place_a, refused_overflows s nonzero)

pub load_fits : (state s : List ℕ) → LoadFits (load_report state s) (load_overflows state s)
unfolding need
load_fits state s = go (has_state_size state)
  where
    go : (b : Bool) → LoadFits (need b (refusal 18 0) (verdict_of s)) (pick b (overflows_of s) 0)
    go true = verdict_fits s
    go false =
        record {
          number = omega arith;
          place_a = omega arith;
          place_b = omega arith;
          count = omega arith;
          accepted = λ z. absurd (omega arith);
          refused = λ _. refl;
        }

pub load_word : LoadWord
load_word state s = verdict_reads_back (load_report state s) (load_overflows state s) (load_fits state s)

-- ---- a query or a poll

-- what is displayed of an answer fits
abbrev ShownFits : Shown → Type 0
ShownFits d = DisplayFits (display_of d)

-- a refusal
turned_fits : (c : Controller) (n a : ℕ) → n < 256 → a < 256 → ShownFits (refused c (refusal n a))
turned_fits c n a p q = record { number = p; place = q; alone = refl; count = omega arith; signal = omega arith; green = omega arith }

-- what exists in a readable certificate
green_small : (s : List ℕ) → Readable s → (g : ℕ) → g < signals_of s → green_byte_of s g < 256
green_small s R g lt =
    let most : 2 ^ links_of s ≤ 2 ^ 8 = pow-le-pow_right (lit< tt) R.header.links_most in
    omega (arith, (R.signal g lt).absent_red)

showing_fits : (c : Controller) (e : ℕ) → HoldsCertificate c → e < entries_of (stored c) → ShownFits (showing c e)
showing_fits c e h lt =
    let R = h.screened.readable in
    let signal = (R.entry e lt).signal in
    record {
      number = omega arith;
      place = omega arith;
      alone = refl;
      count = omega arith;
      signal = omega (arith, R.header.signals_most);
      green = green_small (stored c) R (signal_of (stored c) e) signal;
    }

query_fits : (c : Controller) (queues : List ℕ) (scale : ℕ) → ShownFits (query_of c queues scale)
query_fits c queues scale =
    by_way c queues scale ShownFits
    (λ e h _ i. showing_fits c e h i.exists)
    (λ _ _ _. turned_fits c 19 0 (omega arith) (omega arith))
    (λ _ _. turned_fits c 16 0 (omega arith) (omega arith))
    (λ _. turned_fits c 18 0 (omega arith) (omega arith))

poll_fits : (c : Controller) (p : List ℕ) → ShownFits (poll_of c p)
poll_fits c p = ⊎_elim (turned 18 0 (omega arith) (omega arith) (λ z. omega arith)) (λ w. by w.0 w.1.0 w.1.1.0 w.1.1.1) (poll_numbers c p)
  where
    turned : (n a : ℕ) → n < 256 → a < 256 → (n ≡ 0 → ⊥) → (poll_of c p).report ≡ refusal n a → ShownFits (poll_of c p)
    turned n a small link some e =
        let back : poll_of c p ≡ refused c (refusal n a) = poll_refused c p (rw e some) ∙ rw e in
        rw back (turned_fits c n a small link)

    -- a link of a certificate that is held
    link_small : (l : ℕ) → l < links_of (stored c) → HoldsCertificate c → l < 256
    link_small l lt h = omega (arith, h.screened.readable.header.links_most)

    by : (n a : ℕ) → PollAnswer (stored c) n a → (poll_of c p).report ≡ refusal n a → ShownFits (poll_of c p)
    by n a improper e = turned 16 0 (omega arith) (omega arith) (λ z. omega arith) e
    by n a (bad lt) e = turned 20 a (omega arith) (link_small a lt ((poll_bad c p a).0 e).0) (λ z. omega arith) e
    by n a (silent lt) e = turned 21 a (omega arith) (link_small a lt ((poll_silent c p a).0 e).0) (λ z. omega arith) e
    by n a unlisted e = turned 19 0 (omega arith) (omega arith) (λ z. omega arith) e
    by n a succeeds e =
        let h = (poll_succeeds c p).0 e in
        let i = h.1.1.1 in
        rw (poll_shows c p h.1.1.0 h.0 h.1.0 i) (showing_fits c h.1.1.0 h.0 i.exists)

pub query_word : QueryWord
query_word state queues scale = display_reads_back (display_of (query_of (held_in state) queues scale)) (query_fits (held_in state) queues scale)

pub poll_word : PollWord
poll_word state p = display_reads_back (display_of (poll_of (held_in state) p)) (poll_fits (held_in state) p)
