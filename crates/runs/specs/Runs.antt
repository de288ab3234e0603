-- A run: a certificate, first queues, a first mode and a list of steps. It begins after the signal that the first mode remembers.
use Rattle.std.specs.Prelude.{ℕ, ◌*◌, ◌≤◌, ◌<◌, List, [], ◌∷◌, Bool, true, ◌&&◌, cond, ◌≡◌, length, take, get_or, leb, ltb}
use Rattle.certificate.specs.Loops.{every}
use Rattle.certificate.specs.Layout.{links_of, cap_of, safe_of, goal_of, boxes_of, low_of, high_of, entries_of, cell_of, mode_of, signal_of, next_mode_of, remembers, shown_before}
use Rattle.network.specs.Network.{network_of, limit_of}
use Rattle.network.specs.Flow.{next}
use Rattle.grid.specs.Cells.{InCell, cell_at}
use Rattle.judging.specs.Lookup.{entry_for}
use Rattle.runs.specs.Fractions.{Fraction, fraction_at, AtLeast, AtMost, scale_of, over_scale}

-- the state of a run: the queues, over one scale, the mode, and the signal last shown (in HD it has no effect: network `PlainLimits`)
pub record RunState : Type 0 where
  pub scale : ℕ
  pub queue : ℕ → ℕ
  pub mode : ℕ
  pub shown : ℕ

-- a step: the number of an arrival box, and one exact fraction a link
pub record Step : Type 0 where
  pub box : ℕ
  pub arrivals : List Fraction

-- the state at moment 0: after the signal that the first mode remembers
abbrev pub start : List ℕ → List Fraction → ℕ → RunState
start s queues mode = record { scale = scale_of queues; queue = over_scale queues; mode = mode; shown = shown_before s mode }

-- entry e is in force: the queues lie in its cell and it is listed for the mode held
pub record InForce (s : List ℕ) (r : RunState) (e : ℕ) : Type 0 where
  pub exists : e < entries_of s
  pub cell : InCell s (cell_of s e) r.scale r.queue
  pub mode : mode_of s e ≡ r.mode

-- the entry of the queues' cell and the mode held, looked up
abbrev pub entry_in : List ℕ → RunState → ℕ
entry_in s r = entry_for s (cell_at s r.scale r.queue) r.mode

-- some entry is in force: no queue exceeds cap, and the lookup finds one
unfoldable pub has_entry : List ℕ → RunState → Bool
has_entry s r = every (links_of s) (λ l. leb (r.queue l) (r.scale * cap_of s l)) && ltb (entry_in s r) (entries_of s)

-- the queues and the arrivals of a step, brought to one scale, and the next queues over 10,000 times it, under entry e
abbrev pub common_scale : RunState → Step → ℕ
common_scale r p = r.scale * scale_of p.arrivals

abbrev pub queues_over : RunState → Step → ℕ → ℕ
queues_over r p l = r.queue l * scale_of p.arrivals

abbrev pub arrivals_over : RunState → Step → ℕ → ℕ
arrivals_over r p l = r.scale * over_scale p.arrivals l

-- each link sends at most its limit under the entry's signal after the signal last shown; the entry's signal is then the one last shown
unfoldable pub moved : List ℕ → RunState → Step → ℕ → RunState
moved s r p e =
    record {
      scale = 10000 * common_scale r p;
      queue = next (network_of s) (limit_of s r.shown (signal_of s e)) (common_scale r p) (queues_over r p) (arrivals_over r p);
      mode = next_mode_of s e;
      shown = signal_of s e;
    }

-- the state after a step; with no entry in force, queues, mode and signal as they were
unfoldable pub stepped : List ℕ → RunState → Step → RunState
stepped s r p = cond (has_entry s r) (moved s r p (entry_in s r)) r

-- the state after a list of steps
unfoldable pub after : List ℕ → RunState → List Step → RunState
after s r [] = r
after s r (p ∷ ps) = after s (stepped s r p) ps

-- the state at moment k: after k steps
abbrev pub moment_of : List ℕ → RunState → List Step → ℕ → RunState
moment_of s r steps k = after s r (take k steps)

-- in H2 and H3 the signal last shown is the one that the mode held remembers
abbrev pub Remembered : List ℕ → RunState → Type 0
Remembered s r = remembers s ≡ true → r.shown ≡ shown_before s r.mode

-- HD and H2: the goal is met: no queue exceeds its link's goal; a visit is a moment at which it is
abbrev pub GoalMet : List ℕ → RunState → Type 0
GoalMet s r = (l : ℕ) → l < links_of s → r.queue l ≤ r.scale * goal_of s l

-- no queue exceeds its link's safe number
abbrev pub Safe : List ℕ → RunState → Type 0
Safe s r = (l : ℕ) → l < links_of s → r.queue l ≤ r.scale * safe_of s l

-- first queues: one exact fraction a link
pub record ProperQueues (s : List ℕ) (queues : List Fraction) : Type 0 where
  pub count : length queues ≡ links_of s
  pub scales : (l : ℕ) → l < links_of s → 1 ≤ (fraction_at queues l).den

-- a step of the run: an existing box, one exact fraction a link, at least the box's low and at most its high
pub record ProperStep (s : List ℕ) (p : Step) : Type 0 where
  pub box : p.box < boxes_of s
  pub count : length p.arrivals ≡ links_of s
  pub scales : (l : ℕ) → l < links_of s → 1 ≤ (fraction_at p.arrivals l).den
  pub low : (l : ℕ) → l < links_of s → AtLeast (fraction_at p.arrivals l) (low_of s p.box l)
  pub high : (l : ℕ) → l < links_of s → AtMost (fraction_at p.arrivals l) (high_of s p.box l)

-- a step that stands past the end of a list
abbrev pub no_step : Step
no_step = record { box = 0; arrivals = [] }

abbrev pub ProperSteps : List ℕ → List Step → Type 0
ProperSteps s steps = (k : ℕ) → k < length steps → ProperStep s (get_or steps k no_step)
