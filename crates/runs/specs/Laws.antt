-- What is proved of fractions and runs (proofs/ of this crate). Statements only.
use Rattle.std.specs.Prelude.{ℕ, ◌+◌, ◌*◌, ◌%◌, ◌≤◌, ◌<◌, List, false, ◌↔◌, ◌≡◌, length, get_or}
use Rattle.certificate.specs.Layout.{links_of, boxes_of, entries_of, takes_turns, greatest_goal, cell_of, mode_of, signal_of, rank_of}
use Rattle.certificate.specs.Facts.{Readable}
use Rattle.network.specs.Network.{network_of, limit_of}
use Rattle.network.specs.Flow.{gross}
use Rattle.network.specs.Laws.{Screened}
use Rattle.grid.specs.Laws.{InClosedCell, InBox}
use Rattle.judging.specs.Conditions.{SafeCell, GoalCell}
use Rattle.judging.specs.Verdict.{verdict_of}
use Rattle.judging.specs.Overflow.{entry_overflows, overflows_of}
use Rattle.runs.specs.Fractions.{Fraction, fraction_at, scale_of, over_scale}
use Rattle.runs.specs.Runs.{RunState, Step, start, InForce, common_scale, queues_over, arrivals_over, moved, stepped, moment_of, Remembered, GoalMet, Safe, no_step, ProperQueues, ProperStep, ProperSteps}
use Rattle.runs.specs.Goals.{greatest_rank, MetFor, turned}
use Rattle.runs.specs.Claim.{RunClaim}

-- bringing a list of fractions to one scale keeps each, by cross products
abbrev pub KeepsFractions : Type 0
KeepsFractions =
    (fs : List Fraction) (l : ℕ) → l < length fs → over_scale fs l * (fraction_at fs l).den ≡ (fraction_at fs l).num * scale_of fs

-- the common scale is at least 1 where each scale is
abbrev pub ScalePositive : Type 0
ScalePositive = (fs : List Fraction) → ((l : ℕ) → l < length fs → 1 ≤ (fraction_at fs l).den) → 1 ≤ scale_of fs

-- What the run claim speaks of is all that document 01 means.

-- state r has the queues x over scale D, by cross products, and is in that mode
pub record Begins (s : List ℕ) (r : RunState) (D : ℕ) (x : ℕ → ℕ) (mode : ℕ) : Type 0 where
  pub queue : (l : ℕ) → l < links_of s → r.queue l * D ≡ x l * r.scale
  pub held : r.mode ≡ mode

-- all exact queues may be first queues, in any mode: for queues x over any scale D some list of fractions begins a run with just these
abbrev pub AnyQueues : Type 0
AnyQueues =
    (s : List ℕ) (D : ℕ) (x : ℕ → ℕ) → 1 ≤ D
    → (queues : List Fraction) × ProperQueues s queues × ((mode : ℕ) → Begins s (start s queues mode) D x mode)

-- a step's arrivals lie in its box
abbrev pub StepInBox : Type 0
StepInBox = (s : List ℕ) (p : Step) → ProperStep s p → InBox s p.box (scale_of p.arrivals) (over_scale p.arrivals)

-- and all exact arrivals of every box may be a step's
abbrev pub AnyArrivals : Type 0
AnyArrivals =
    (s : List ℕ) (b D : ℕ) (a : ℕ → ℕ) → b < boxes_of s → 1 ≤ D → InBox s b D a
    → (p : Step) × ProperStep s p × (p.box ≡ b) × ((l : ℕ) → l < links_of s → over_scale p.arrivals l * D ≡ a l * scale_of p.arrivals)

-- the queues and arrivals of a step, brought to one scale, are what they were, by cross products
pub record OverOne (r : RunState) (p : Step) : Type 0 where
  pub queue : (l : ℕ) → queues_over r p l * r.scale ≡ r.queue l * common_scale r p
  pub arrival : (l : ℕ) → l < length p.arrivals
      → arrivals_over r p l * (fraction_at p.arrivals l).den ≡ (fraction_at p.arrivals l).num * common_scale r p

abbrev pub OneScale : Type 0
OneScale = (r : RunState) (p : Step) → OverOne r p

-- moment 0 is before the first step, and each moment one step after the one before it
pub record Moments (s : List ℕ) (r : RunState) (steps : List Step) : Type 0 where
  pub first : moment_of s r steps 0 ≡ r
  pub next : (k : ℕ) → k < length steps → moment_of s r steps (k + 1) ≡ stepped s (moment_of s r steps k) (get_or steps k no_step)

abbrev pub MomentsFollow : Type 0
MomentsFollow = (s : List ℕ) (r : RunState) (steps : List Step) → Moments s r steps

-- a step goes by the entry in force; with none in force it leaves all as it was
pub record StepGoes (s : List ℕ) (r : RunState) (p : Step) : Type 0 where
  pub moves : (e : ℕ) → InForce s r e → stepped s r p ≡ moved s r p e
  pub stays : ((e : ℕ) → InForce s r e → ⊥) → stepped s r p ≡ r

abbrev pub StepsGo : Type 0
StepsGo = (s : List ℕ) → Screened s → (r : RunState) (p : Step) → 1 ≤ r.scale → StepGoes s r p

-- the conditions on an entry's cell, said of exact queues: its upper edges are at most safe exactly if no queues of the closed cell exceed safe, and
-- at most the goal of its mode exactly if all of them meet it, which in HD and H2 is the one goal
pub record CellSays (s : List ℕ) (e : ℕ) : Type 0 where
  pub safe : SafeCell s e ↔ ((r : RunState) → InClosedCell s (cell_of s e) r.scale r.queue → Safe s r)
  pub goal : GoalCell s e ↔ ((r : RunState) → InClosedCell s (cell_of s e) r.scale r.queue → MetFor s (mode_of s e) r)
  pub one_goal : takes_turns s ≡ false → (r : RunState) → MetFor s (mode_of s e) r ↔ GoalMet s r

abbrev pub CellsSay : Type 0
CellsSay = (s : List ℕ) → Readable s → (e : ℕ) → CellSays s e

-- the number i goals after number n is n + i, counted round after the greatest
abbrev pub TurnsRound : Type 0
TurnsRound = (s : List ℕ) (i n : ℕ) → n ≤ greatest_goal s → turned s i n ≡ (n + i) % (greatest_goal s + 1)

-- the greatest rank is that of some entry, and no entry's is above it
pub record RankIs (s : List ℕ) : Type 0 where
  pub most : (e : ℕ) → e < entries_of s → rank_of s e ≤ greatest_rank s
  pub some : (e : ℕ) × (e < entries_of s) × (rank_of s e ≡ greatest_rank s)

abbrev pub RankIsGreatest : Type 0
RankIsGreatest = (s : List ℕ) → Readable s → RankIs s

-- at every moment of a run the queues stand over a scale of at least 1
abbrev pub MomentScale : Type 0
MomentScale =
    (s : List ℕ) (mode : ℕ) (queues : List Fraction) (steps : List Step) → ProperQueues s queues → ProperSteps s steps
    → (k : ℕ) → 1 ≤ (moment_of s (start s queues mode) steps k).scale

-- at every moment of a run of a readable certificate, whatever the queues and steps, the signal last shown is the one that the mode held remembers
abbrev pub MomentRemembers : Type 0
MomentRemembers =
    (s : List ℕ) → Readable s → (mode : ℕ) (queues : List Fraction) (steps : List Step) (k : ℕ)
    → Remembered s (moment_of s (start s queues mode) steps k)

-- Demand 3: the run claim holds of every byte string whose verdict is 0
abbrev pub RunTheorem : Type 0
RunTheorem = (s : List ℕ) → (verdict_of s).number ≡ 0 → RunClaim s

-- Where arrivals may be turned away (judging `Overflow`).

-- step p from state r to state q takes all arrivals in: on each link the queue after it is what was there, less what is sent, with what is passed
-- in and all that arrives, under entry e and not cut at cap; over 10,000 times the common scale
pub record TakesAll (s : List ℕ) (r : RunState) (p : Step) (e : ℕ) (q : RunState) : Type 0 where
  pub scale : q.scale ≡ 10000 * common_scale r p
  pub queue : (l : ℕ) → l < links_of s
      → q.queue l ≡ gross (network_of s) (limit_of s r.shown (signal_of s e)) (common_scale r p) (queues_over r p) (arrivals_over r p) l

-- so does every step under an entry that is not counted
abbrev pub StepTakesAll : Type 0
StepTakesAll =
    (s : List ℕ) → Screened s → (r : RunState) (e : ℕ) (p : Step) → InForce s r e → 1 ≤ r.scale → Remembered s r → ProperStep s p
    → entry_overflows s e ≡ false
    → TakesAll s r p e (stepped s r p)

-- and, where a certificate is accepted with 0, every step of every run
abbrev pub NoneTurnedAway : Type 0
NoneTurnedAway =
    (s : List ℕ) → (verdict_of s).number ≡ 0 → overflows_of s ≡ 0
    → (mode : ℕ) (queues : List Fraction) (steps : List Step) (e : ℕ)
    → ProperQueues s queues → ProperSteps s steps → InForce s (start s queues mode) e → (k : ℕ) → k < length steps
    → (f : ℕ) × InForce s (moment_of s (start s queues mode) steps k) f
    × TakesAll s (moment_of s (start s queues mode) steps k) (get_or steps k no_step) f (moment_of s (start s queues mode) steps (k + 1))
