-- Which of two certificates is better (document 02, 8/14). Both must be accepted; otherwise the refusal of the first that is not is given.
use Rattle.std.specs.Prelude.{ℕ, List, Bool, true, false, cond, eqb}
use Rattle.certificate.specs.declared.Report.{Report}
use Rattle.certificate.specs.Checks.{fine, or_else}
use Rattle.judging.specs.Verdict.{verdict_of}
use Rattle.covering.specs.declared.Comparison.{Comparison}
use Rattle.covering.specs.declared.Comparison.TheVariants.{Equal, First, Second, Neither, Refused}
use Rattle.covering.specs.Covering.{covers}

-- the answer by whether the first covers the second, and the second the first: equal means each covers the other, first or second that only this one
-- covers the other
abbrev pub better_of : Bool → Bool → Comparison
better_of true true = Equal
better_of true false = First
better_of false true = Second
better_of false false = Neither

-- a refusal goes out, else what follows
unfoldable pub or_refused : Report → Comparison → Comparison
or_refused r next = cond (eqb r.number 0) next (Refused r)

-- the answer for any two byte strings
unfoldable pub comparison_of : List ℕ → List ℕ → Comparison
comparison_of s t = or_refused (verdict_of s) (or_refused (verdict_of t) (better_of (covers s t) (covers t s)))

-- What document 01 asks of an answer that is an enum: number, places and count of each of its cases, and the values beside them.

-- an answer is a success with no places and no count; a refusal is the certificate's own
abbrev pub report_of : Comparison → Report
report_of Equal = fine
report_of First = fine
report_of Second = fine
report_of Neither = fine
report_of (Refused r) = r

-- which of the two is better: 1 equal, 2 first, 3 second, 4 neither; 0 with a refusal
abbrev pub better_number : Comparison → ℕ
better_number Equal = 1
better_number First = 2
better_number Second = 3
better_number Neither = 4
better_number (Refused r) = 0

-- the report of a comparison: that of the first certificate that is not accepted, else success
abbrev pub compared_report : List ℕ → List ℕ → Report
compared_report s t = or_else (verdict_of s) (or_else (verdict_of t) fine)
