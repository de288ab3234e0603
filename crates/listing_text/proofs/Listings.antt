-- The whole text: its length, and that of longer input (specs/Laws.antt). Assumes nothing.
use Prim.Native.Nat.{ℕ, ◌+◌, ◌≤◌}
use mathlib.Core.List.{List, ◌++◌}
use mathlib.Core.Path.{◌≡◌, refl, sym, ap, ◌∙◌}
use mathlib.Core.Logic.{⊎_elim}
use native.Mathlib.Omega.{arith}
use borrow.Author.Tests.{eq-eqb, ne_eqb}
use lib.ListN.{length, take, drop, length-append}
use lib.Seq.{take_all, take_at}
use Rattle.certificate.specs.declared.Report.{Report}
use Rattle.certificate.specs.Checks.{report_with}
use Rattle.certificate.specs.Layout.{max_length, entries_of}
use Rattle.certificate.specs.Facts.{Readable}
use Rattle.certificate.proofs.Size.{readable_fits}
use Rattle.certificate.proofs.Tests.{passes}
use Rattle.judging.specs.Verdict.{verdict_of}
use Rattle.judging.specs.Overflow.{overflows_of}
use Rattle.judging.proofs.Verdicts.{accepted_is_plain, verdict_of_long}
use Rattle.judging.proofs.Overflows.{overflows_fit}
use Rattle.listing_text.specs.Lines.{counts_line, entry_lines, accepted_line, refused_line}
use Rattle.listing_text.specs.Listing.{accepted_text, text_of, listing_of, Sent}
use Rattle.listing_text.specs.Laws.{max_listing, ListingIs, ListingFits, ListingSent, ListingOfLong}
use Rattle.listing_text.proofs.Wording.{send_is_plain}
use Rattle.listing_text.proofs.LineLengths.{counts_most, entries_most, accepted_most, refused_most}

-- the text under a report, by its number
pub text_accepted : (s : List ℕ) (r : Report) (n : ℕ) → r.number ≡ 0 → text_of s r n ≡ accepted_text s r n
unfolding text_of
text_accepted s r n e = rw (eq-eqb r.number 0 e)

pub text_refused : (s : List ℕ) (r : Report) (n : ℕ) → (r.number ≡ 0 → ⊥) → text_of s r n ≡ refused_line r
unfolding text_of
text_refused s r n e = rw (ne_eqb r.number 0 e)

pub listing_is : ListingIs
unfolding entry_lines listing_of accepted_text
listing_is s =
    record {
      none = refl;
      more = λ n. refl;
      accepted = text_accepted s (verdict_of s) (overflows_of s);
      refused = text_refused s (verdict_of s) (overflows_of s);
    }

pub length-accepted : (s : List ℕ) (r : Report) (n : ℕ)
    → length (accepted_text s r n) ≡ length (counts_line s) + (length (entry_lines s (entries_of s)) + length (accepted_line r n))
unfolding accepted_text
length-accepted s r n = rw (length-append, length-append)

-- an accepted certificate is readable
readable : (s : List ℕ) → (verdict_of s).number ≡ 0 → Readable s
readable s z = ((accepted_is_plain s).0 z).0.readable

pub listing_fits : ListingFits
unfolding listing_of
listing_fits s = ⊎_elim accepted refused (passes (verdict_of s))
  where
    accepted : (verdict_of s).number ≡ 0 → length (text_of s (verdict_of s) (overflows_of s)) ≤ max_listing
    accepted z =
        let R = readable s z in
        rw (text_accepted s (verdict_of s) (overflows_of s) z, length-accepted)
        (omega (
          arith,
          counts_most s R,
          entries_most s R (entries_of s) (omega arith),
          accepted_most s R (verdict_of s) (overflows_of s) (overflows_fit s),
          R.header.entries_most,
        ))

    refused : ((verdict_of s).number ≡ 0 → ⊥) → length (text_of s (verdict_of s) (overflows_of s)) ≤ max_listing
    refused bad = rw (text_refused s (verdict_of s) (overflows_of s) bad) (omega (arith, refused_most (verdict_of s)))

-- a text that fits a buffer is sent whole
module _ {text buffer after : List ℕ} {answer : Report} (fits : length text ≤ length buffer) (sent : Sent text buffer after answer) where
  report_is : answer ≡ report_with 0 (length text) 0 0
  report_is = sent.report ∙ (send_is_plain text buffer).done fits

  front_is : take (length text) after ≡ text
  front_is =
      let whole : after ≡ text ++ drop (length text) buffer = sent.bytes ∙ (send_is_plain text buffer).put fits in
      rw whole (take_at text (drop (length text) buffer) (length text) refl)

pub listing_sent : ListingSent
listing_sent s buffer after answer room sent =
    let fits : length (listing_of s) ≤ length buffer = omega (arith, listing_fits s) in
    let r = report_is fits sent in
    let place : answer.a ≡ length (listing_of s) = ap (λ (q : Report). q.a) r in
    record { number = ap (λ (q : Report). q.number) r; place = place; text = rw place (front_is fits sent) }

pub listing_of_long : ListingOfLong
unfolding listing_of
listing_of_long s = ⊎_elim accepted refused (passes (verdict_of s))
  where
    front : List ℕ
    front = take (max_length + 1) s

    accepted : (verdict_of s).number ≡ 0 → text_of s (verdict_of s) (overflows_of s) ≡ text_of front (verdict_of front) (overflows_of front)
    accepted z = rw (take_all (max_length + 1) s (omega (arith, readable_fits s (readable s z))))

    refused : ((verdict_of s).number ≡ 0 → ⊥) → text_of s (verdict_of s) (overflows_of s) ≡ text_of front (verdict_of front) (overflows_of front)
    refused bad =
        rw (← verdict_of_long s) (text_refused s (verdict_of s) (overflows_of s) bad ∙ sym (text_refused front (verdict_of s) (overflows_of front) bad))
