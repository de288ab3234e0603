-- The street cabinet's calls on a state that is lent as bytes: what each answers, and every byte of the state afterwards.
-- A slice of any other length than a state's gets 18 from each of them; a refusal leaves every byte as it was.
use Rattle.std.specs.Prelude.{ℕ, List, ◌≡◌}
use Rattle.runs.specs.Claim.{RunClaim}
use Rattle.controller.specs.declared.Shown.{Shown}
use Rattle.controller.specs.State.{fresh_state, holding}
use Rattle.packed_state.specs.State.{held_in, bytes_after}
use Rattle.held_state.specs.Held.{fresh_report, load_report, load_overflows, shown_for, display_of}
use Rattle.polls.specs.Poll.{poll_of}
use Rattle.answer_words.specs.Words.{display_word, verdict_word, queues_in}

-- a fresh state
abbrev pub FreshCall : List ℕ → List ℕ → ℕ → Type 0
FreshCall state state' r = (r ≡ (fresh_report state).number) × (state' ≡ bytes_after (fresh_report state).number fresh_state state)

-- a load; every run of an accepted certificate keeps the run claim
pub record LoadCall (s state state' : List ℕ) (r : ℕ) : Type 0 where
  pub answer : r ≡ verdict_word (load_report state s) (load_overflows state s)
  pub bytes : state' ≡ bytes_after (load_report state s).number (holding s) state
  pub claim : (load_report state s).number ≡ 0 → RunClaim s

-- what is shown, as one number, and the next state's bytes
pub record ShownCall (shown : Shown) (state state' : List ℕ) (r : ℕ) : Type 0 where
  pub answer : r ≡ display_word (display_of shown)
  pub bytes : state' ≡ bytes_after shown.report.number shown.state state

-- a query whose queues are given as bytes
abbrev pub QueryCall : List ℕ → ℕ → List ℕ → List ℕ → ℕ → Type 0
QueryCall queues scale state state' r = ShownCall (shown_for state (queues_in queues) scale) state state' r

-- a poll
abbrev pub polled_for : List ℕ → List ℕ → Shown
polled_for state p = poll_of (held_in state) p

abbrev pub PollCall : List ℕ → List ℕ → List ℕ → ℕ → Type 0
PollCall p state state' r = ShownCall (polled_for state p) state state' r
