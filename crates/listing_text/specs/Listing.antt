-- Listing of document 01: a line of counts, a line for each entry, and the verdict (document 02, request 4: with a second number); of a refused
-- certificate one line.
-- The call that lists: its answer, and the lent buffer afterwards.
use Rattle.std.specs.Prelude.{ℕ, List, ◌++◌, cond, ◌≡◌, length, drop, leb, eqb}
use Rattle.certificate.specs.declared.Report.{Report}
use Rattle.certificate.specs.Checks.{report_with, refusal, need}
use Rattle.certificate.specs.Layout.{entries_of}
use Rattle.judging.specs.Verdict.{verdict_of}
use Rattle.judging.specs.Overflow.{overflows_of}
use Rattle.listing_text.specs.Lines.{counts_line, entry_lines, accepted_line, refused_line}

-- the text of an accepted certificate, n of whose entries may turn arrivals away
unfoldable pub accepted_text : List ℕ → Report → ℕ → List ℕ
accepted_text s r n = counts_line s ++ (entry_lines s (entries_of s) ++ accepted_line r n)

-- the whole text under a given report and number
unfoldable pub text_of : List ℕ → Report → ℕ → List ℕ
text_of s r n = cond (eqb r.number 0) (accepted_text s r n) (refused_line r)

-- the whole text
unfoldable pub listing_of : List ℕ → List ℕ
listing_of s = text_of s (verdict_of s) (overflows_of s)

-- a text that goes to the front of a lent buffer: A is its length, and 17 where it is longer than the buffer
unfoldable pub send_report : List ℕ → List ℕ → Report
send_report text buffer = need (leb (length text) (length buffer)) (refusal 17 0) (report_with 0 (length text) 0 0)

-- the buffer afterwards: every byte past the text as it was; a refusal leaves it as it was
unfoldable pub send_buffer : List ℕ → List ℕ → List ℕ
send_buffer text buffer = cond (leb (length text) (length buffer)) (text ++ drop (length text) buffer) buffer

-- what a call that sends a text answers, and how it leaves the buffer
pub record Sent (text buffer after : List ℕ) (answer : Report) : Type 0 where
  pub report : answer ≡ send_report text buffer
  pub bytes : after ≡ send_buffer text buffer

-- the call that lists s
abbrev pub list_report : List ℕ → List ℕ → Report
list_report s buffer = send_report (listing_of s) buffer

abbrev pub list_buffer : List ℕ → List ℕ → List ℕ
list_buffer s buffer = send_buffer (listing_of s) buffer
