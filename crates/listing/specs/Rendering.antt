-- What the code that lists goes by: the text of what judging answers, and what is sent of it.
use Rattle.std.specs.Prelude.{ℕ, List, Result, Ok, Err}
use Rattle.certificate.specs.declared.Report.{Report}
use Rattle.certificate.specs.Checks.{report_with}
use Rattle.octets.specs.declared.refusals.Refused.{Refused}
use Rattle.octets.specs.Refusals.{report_of}
use Rattle.verdict.specs.declared.Judged.{Judged}
use Rattle.listing_text.specs.Listing.{accepted_text}

-- the text of a certificate that is accepted
abbrev pub judged_text : Judged → List ℕ
judged_text j = accepted_text j.certificate.bytes.now (report_with 0 0 0 j.accepted.count) j.accepted.overflows

-- the report of what was sent: its length as A, or the refusal
abbrev pub sent_told : Result ℕ Refused → Report
sent_told (Ok size) = report_with 0 size 0 0
sent_told (Err e) = report_of e
