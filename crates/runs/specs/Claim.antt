-- Demand 3: what every run of an accepted certificate keeps.
use Rattle.std.specs.Prelude.{ℕ, ◌≤◌, true, false, List, ◌≡◌, length}
use Rattle.certificate.specs.Layout.{takes_turns}
use Rattle.runs.specs.Fractions.{Fraction}
use Rattle.runs.specs.Runs.{RunState, Step, start, InForce, moment_of, Safe, ProperQueues, ProperSteps}
use Rattle.runs.specs.Goals.{GoalTimes, InTurn}

-- what is kept at the moments of a run, the last of them n, where e is the first entry
pub record KeptAlong (s : List ℕ) (moment : ℕ → RunState) (n e : ℕ) : Type 0 where
  -- at every moment some entry is in force: the queues' cell is listed for the mode
  pub listed : (k : ℕ) → k ≤ n → (f : ℕ) × InForce s (moment k) f
  -- at every moment no queue exceeds safe
  pub safe : (k : ℕ) → k ≤ n → Safe s (moment k)
  -- HD and H2: the goal times
  pub times : takes_turns s ≡ false → GoalTimes s moment n e
  -- H3: the goals in turn
  pub turns : takes_turns s ≡ true → InTurn s moment n

-- what the run from r by a list of steps keeps
abbrev pub Kept : List ℕ → RunState → List Step → ℕ → Type 0
Kept s r steps e = KeptAlong s (moment_of s r steps) (length steps) e

-- the run claim: every first mode, first queues whose cell is listed for it, and list of steps
abbrev pub RunClaim : List ℕ → Type 0
RunClaim s =
    (mode : ℕ) (queues : List Fraction) (steps : List Step) (e : ℕ)
    → ProperQueues s queues → ProperSteps s steps → InForce s (start s queues mode) e
    → Kept s (start s queues mode) steps e
