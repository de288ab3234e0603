-- How answers cross to other languages: as numbers at the front of a lent slice, `out`, and the first of them as the call's result.
use Rattle.std.specs.Prelude.{ℕ, ◌≤◌, ◌<◌, List, [], ◌∷◌, ◌++◌, ◌≡◌, length, get_or, drop}
use Rattle.certificate.specs.declared.Report.{Report}
use Rattle.covering.specs.declared.Comparison.{Comparison}
use Rattle.covering.specs.Comparing.{report_of, better_number}
use Rattle.controller.specs.declared.Shown.{Shown}

-- the numbers of a report
abbrev pub report_numbers : Report → List ℕ
report_numbers r = r.number ∷ r.a ∷ r.b ∷ r.count ∷ []

-- the numbers of a verdict: those of its report, and how many entries may turn arrivals away
abbrev pub verdict_numbers : Report → ℕ → List ℕ
verdict_numbers r overflows = report_numbers r ++ (overflows ∷ [])

-- the numbers of a comparison: those of its report, and which of the two is better
abbrev pub comparison_numbers : Comparison → List ℕ
comparison_numbers found = report_numbers (report_of found) ++ (better_number found ∷ [])

-- the numbers of a query's answer: those of its report, the signal, its green byte
abbrev pub shown_numbers : Shown → List ℕ
shown_numbers shown = report_numbers shown.report ++ (shown.signal ∷ shown.green ∷ [])

-- what a call with this answer does: it fills an `out` that has room, on refusal too; where `out` is too short, 255, and it stays as it was
pub record Answers (numbers out out' : List ℕ) (r : ℕ) : Type 0 where
  pub filled : length numbers ≤ length out → (r ≡ get_or numbers 0 0) × (out' ≡ numbers ++ drop (length numbers) out)
  pub short : length out < length numbers → (r ≡ 255) × (out' ≡ out)

-- the same of a call that is lent one slice more, which is to be `due` afterwards
pub record Called (numbers due before after out out' : List ℕ) (r : ℕ) : Type 0 where
  pub answer : Answers numbers out out' r
  pub done : length numbers ≤ length out → after ≡ due
  pub undone : length out < length numbers → after ≡ before
