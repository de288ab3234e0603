-- The calls on a state that is lent as bytes: what each answers, and the bytes afterwards.
-- A slice of any other length than a state's gets 18 from each of them.
use Rattle.std.specs.Prelude.{ℕ, List, ◌≡◌, Result}
use Rattle.certificate.specs.declared.Report.{Report}
use Rattle.certificate.specs.Checks.{refusal, fine, need}
use Rattle.certificate.specs.Loops.{pick}
use Rattle.judging.specs.Verdict.{verdict_of}
use Rattle.judging.specs.Overflow.{overflows_of}
use Rattle.octets.specs.declared.refusals.Refused.{Refused}
use Rattle.verdict.specs.declared.Accepted.{Accepted}
use Rattle.verdict.specs.Entries.{verdict_told, overflows_in}
use Rattle.runs.specs.Claim.{RunClaim}
use Rattle.controller.specs.declared.Shown.{Shown}
use Rattle.controller.specs.State.{fresh_state, holding}
use Rattle.controller.specs.Query.{query_of}
use Rattle.held_state.specs.declared.Display.{Display}
use Rattle.packed_state.specs.State.{has_state_size, held_in, bytes_after}

-- a fresh state
abbrev pub fresh_report : List ℕ → Report
fresh_report state = need (has_state_size state) (refusal 18 0) fine

pub record HeldFresh (state state' : List ℕ) (r : Report) : Type 0 where
  pub report : r ≡ fresh_report state
  pub bytes : state' ≡ bytes_after (fresh_report state).number fresh_state state

-- a load: 18 comes before the verdict's refusals; the next state holds its own copy, and its runs keep the claim
abbrev pub load_report : List ℕ → List ℕ → Report
load_report state s = need (has_state_size state) (refusal 18 0) (verdict_of s)

-- the number beside the count that an acceptance has
abbrev pub load_overflows : List ℕ → List ℕ → ℕ
load_overflows state s = pick (has_state_size state) (overflows_of s) 0

pub record HeldLoad (s state state' : List ℕ) (v : Result Accepted Refused) : Type 0 where
  pub report : verdict_told v ≡ load_report state s
  pub overflows : overflows_in v ≡ load_overflows state s
  pub bytes : state' ≡ bytes_after (load_report state s).number (holding s) state
  pub runs : (load_report state s).number ≡ 0 → RunClaim s

-- a query of the state that is held
abbrev pub shown_for : List ℕ → List ℕ → ℕ → Shown
shown_for state queues scale = query_of (held_in state) queues scale

-- what is displayed of an answer: all but the state
abbrev pub display_of : Shown → Display
display_of shown = record { report = shown.report; signal = shown.signal; green = shown.green }

-- an answer is displayed, and its state is the next
pub record Displayed (shown : Shown) (state state' : List ℕ) (r : Display) : Type 0 where
  pub display : r ≡ display_of shown
  pub bytes : state' ≡ bytes_after shown.report.number shown.state state
