-- What the code that judges entry by entry goes by.
use Rattle.std.specs.Prelude.{ℕ, List, ◌≡◌, Result, Ok, Err, IfOk}
use Rattle.certificate.specs.declared.Report.{Report}
use Rattle.certificate.specs.Layout.{entries_of}
use Rattle.judging.specs.EntryTests.{entry_round, accepted}
use Rattle.judging.specs.Overflow.{overflows_before}
use Rattle.octets.specs.declared.refusals.Refused.{Refused}
use Rattle.octets.specs.Refusals.{told_after}
use Rattle.verdict.specs.declared.Accepted.{Accepted}
use Rattle.verdict.specs.declared.Judged.{Judged}

-- entry e judged alone: its first refusal, or accepted with the count after it
unfoldable pub entry_alone : List ℕ → ℕ → ℕ → Report
entry_alone s e n = entry_round s e n accepted

-- the report of a verdict
abbrev pub verdict_told : Result Accepted Refused → Report
verdict_told = told_after (λ a. a.count)

-- the number of entries that may turn arrivals away: 0 in a refusal
abbrev pub overflows_in : Result Accepted Refused → ℕ
overflows_in (Ok a) = a.overflows
overflows_in (Err e) = 0

-- the verdict alone
abbrev pub judged_as : Result Judged Refused → Result Accepted Refused
judged_as (Ok j) = Ok j.accepted
judged_as (Err e) = Err e

-- a verdict with this report, and with the number of overflowing entries of s where that is an acceptance
pub record JudgedAs (s : List ℕ) (report : Report) (v : Result Accepted Refused) : Type 0 where
  pub told_is : verdict_told v ≡ report
  pub counted : IfOk v (λ a. a.overflows ≡ overflows_before s (entries_of s))
