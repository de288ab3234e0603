-- A text sent into the front of a buffer: refused where it is longer, else put there whole. Assumes nothing.
use Rattle.std.proofs.Common.{◌≡◌, ℕ, ◌≤◌, List, length, sym, ◌∙◌, ap, arith}
use Rattle.std.proofs.lemmas.Result.{err_from_is_err_and}
use Rattle.std.specs.Prelude.{Result, Ok, IsErrAnd, leb}
use native.Mathlib.Nat.{zero-add}
use borrow.Author.Tests.{leb-true}
use Rattle.certificate.specs.declared.Report.{Report}
use Rattle.certificate.specs.Checks.{report_with, refusal, fine, need}
use Rattle.judging.specs.Verdict.{verdict_of}
use Rattle.judging.specs.Overflow.{overflows_of}
use Rattle.octets.specs.declared.refusals.Refused.{Refused}
use Rattle.octets.specs.Refusals.{report_of, told}
use Rattle.octets.proofs.Outcomes.{refuses_as, need_left, need_holds, need_fails}
use Rattle.text.specs.declared.Writer.{Writer}
use Rattle.text.specs.TextPut.{Room, written}
use Rattle.text.specs.Writing.{Writes}
use Rattle.verdict.specs.declared.Judged.{Judged}
use Rattle.listing_text.specs.Lines.{refused_line}
use Rattle.listing_text.specs.Listing.{listing_of, send_report, send_buffer, Sent}
use Rattle.listing_text.proofs.Listings.{text_accepted, text_refused}
use Rattle.listing.specs.Rendering.{judged_text, sent_told}

-- a refusal is told as it is
refused_is : (r : Result ℕ Refused) (e : Refused) → IsErrAnd r (λ x. x ≡ e) → sent_told r ≡ told r
refused_is r e h = rw (err_from_is_err_and r h).1

module _ {text buffer : List ℕ} where
  -- a text longer than the buffer: 17, and the buffer as it was
  pub refuses : (r : Result ℕ Refused) (e : Refused) → IsErrAnd r (λ x. x ≡ e) → report_of e ≡ need (leb (length text) (length buffer)) (refusal 17 0) fine
      → Sent text buffer buffer (sent_told r)
  unfolding send_report send_buffer
  refuses r e h p =
      record {
        report = refused_is r e h ∙ need_left r e h _ _ _ _ p;
        bytes = rw (need_fails _ _ _ e p);
      }

  -- a text that is not has room there, and is sent by a writer that puts it from the front on
  pub has_room : fine ≡ need (leb (length text) (length buffer)) (refusal 17 0) fine → Room buffer 0 text
  has_room p = let room : length text ≤ length buffer = leb-true _ _ (need_holds _ 16 0 p) in record { fits = omega arith }

  pub sends : {start end : Writer} {after : List ℕ} → fine ≡ need (leb (length text) (length buffer)) (refusal 17 0) fine → start.buffer.now ≡ buffer → start.at ≡ 0 → Writes start text end
      → after ≡ end.buffer.now → Sent text buffer after (sent_told (Ok (length text)))
  unfolding send_report send_buffer need written
  sends p same front w last = record { report = rw (need_holds _ 16 0 p); bytes = rw (need_holds _ 16 0 p) (last ∙ w.put.bytes ∙ rw (same, front, zero-add)) }

-- the listing, by the verdict
pub listing_accepted : (s : List ℕ) (j : Judged) → report_with 0 0 0 j.accepted.count ≡ verdict_of s → j.accepted.overflows ≡ overflows_of s → j.certificate.bytes.now ≡ s → judged_text j ≡ listing_of s
unfolding listing_of
listing_accepted s j told overflows bytes = rw (bytes, told, overflows) (sym (text_accepted s _ _ (sym (ap (λ (r : Report). r.number) told))))

pub listing_refused : (s : List ℕ) (e : Refused) → report_of e ≡ verdict_of s → refused_line (report_of e) ≡ listing_of s
unfolding listing_of
listing_refused s e told = rw told (sym (text_refused s _ _ (refuses_as e _ told)))
