-- What an entry in force gives at its moment, and what a step of a run keeps, where all entries hold. Assumes nothing.
use Prim.Native.Nat.{ℕ, ◌*◌, ◌≤◌, ◌<◌}
use mathlib.Core.List.{List}
use mathlib.Core.Bool.{Bool, true, false, cond}
use mathlib.Core.Path.{◌≡◌, refl, sym, ap, ◌∙◌, fun_ext}
use native.Mathlib.Nat.{mul_assoc, mul_comm, mul-pos, mul-le-mul_left}
use native.Mathlib.Omega.{arith}
use borrow.Author.Tests.{lt-ltb, le-leb, ltb-true}
use lib.ListN.{length}
use lib.Dec.{leb}
use Rattle.certificate.specs.Loops.{every}
use Rattle.certificate.specs.Layout.{links_of, cap_of, safe_of, goal_for, entries_of, mode_of, cell_of, signal_of, next_mode_of, rank_of, remembers}
use Rattle.certificate.specs.Facts.{Readable}
use Rattle.certificate.proofs.Tests.{and_both, both_and}
use Rattle.certificate.proofs.Loops.{each-every}
use Rattle.network.specs.Network.{network_of, is_green, limit_of, entry_limit}
use Rattle.network.specs.Flow.{next}
use Rattle.network.specs.Laws.{Screened}
use Rattle.network.proofs.Fits.{next_fits}
use Rattle.network.proofs.Limiting.{plain_limits}
use Rattle.network.proofs.Screening.{entry_sound}
use Rattle.grid.specs.Cells.{InCell, cell_at}
use Rattle.grid.specs.Laws.{InBox}
use Rattle.grid.proofs.Intervals.{one_cell}
use Rattle.grid.proofs.Successors.{steps_to_successor}
use Rattle.judging.specs.Conditions.{EntryHolds}
use Rattle.runs.specs.Fractions.{scale_of}
use Rattle.runs.specs.Runs.{RunState, Step, InForce, entry_in, has_entry, common_scale, queues_over, arrivals_over, moved, stepped, Remembered, Safe, ProperStep}
use Rattle.runs.specs.Goals.{MetFor}
use Rattle.runs.specs.Laws.{StepInBox}
use Rattle.runs.proofs.Fractions.{scale_least, keeps_low, keeps_high}
use Rattle.runs.proofs.Cells.{below_bound, same_cell}
use Rattle.runs.proofs.Lookup.{finds_entry}

-- an entry in force at state r, in the next mode of entry e, whose rank is lower than that of entry e where that is above 0
pub record Follower (s : List ℕ) (e : ℕ) (r : RunState) : Type 0 where
  pub scale : 1 ≤ r.scale
  pub entry : ℕ
  pub in_force : InForce s r entry
  pub next_mode : r.mode ≡ next_mode_of s e
  pub lower : 0 < rank_of s e → rank_of s entry < rank_of s e

-- what holds wherever an entry is in force: no queue exceeds safe, rank 0 meets the goal of the mode held, and a step leads to a follower
pub record Steady (s : List ℕ) : Type 0 where
  pub safe : (r : RunState) (e : ℕ) → InForce s r e → Safe s r
  pub goal : (r : RunState) (e : ℕ) → InForce s r e → rank_of s e ≡ 0 → MetFor s r.mode r
  pub step : (r : RunState) (e : ℕ) (p : Step) → InForce s r e → 1 ≤ r.scale → Remembered s r → ProperStep s p → Follower s e (stepped s r p)
  pub memory : (r : RunState) (p : Step) → Remembered s r → Remembered s (stepped s r p)

-- a step's arrivals lie in its arrival box
pub step_in_box : StepInBox
step_in_box s p P l lt =
    let given : l < length p.arrivals = rw P.count lt in
    let low = keeps_low p.arrivals l _ given (P.scales l lt) (P.low l lt) in
    let high = keeps_high p.arrivals l _ given (P.scales l lt) (P.high l lt) in
    (rw mul_comm low, rw (mul_comm (scale_of p.arrivals)) high)

-- they have a scale of at least 1, and over the common scale they lie there too
module _ (s : List ℕ) (p : Step) (P : ProperStep s p) where
  pub arrivals_scale : 1 ≤ scale_of p.arrivals
  arrivals_scale = scale_least p.arrivals (links_of s) P.count P.scales

  pub in_box : (r : RunState) → InBox s p.box (common_scale r p) (arrivals_over r p)
  in_box r l lt =
      let here = step_in_box s p P l lt in
      (rw mul_assoc (mul-le-mul_left r.scale here.0), rw mul_assoc (mul-le-mul_left r.scale here.1))

  -- the scale stays at least 1, whether an entry is in force or not
  pub scale_stays : (r : RunState) → 1 ≤ r.scale → 1 ≤ (stepped s r p).scale
  unfolding stepped moved
  scale_stays r pos = go (has_entry s r)
    where
      over : 1 ≤ common_scale r p
      over = mul-pos pos arrivals_scale

      go : (b : Bool) → 1 ≤ (cond b (moved s r p (entry_in s r)) r).scale
      go true = omega (arith, over)
      go false = pos

-- an entry that is looked up exists
entry_exists : (s : List ℕ) (r : RunState) → has_entry s r ≡ true → entry_in s r < entries_of s
unfolding has_entry
entry_exists s r e = ltb-true _ _ (and_both (every (links_of s) (λ l. leb (r.queue l) (r.scale * cap_of s l))) _ e).1

-- a step keeps the memory, whether an entry is in force or not: the next mode of each entry remembers its signal
pub remembers_on : (s : List ℕ) → Readable s → (r : RunState) (p : Step) → Remembered s r → Remembered s (stepped s r p)
unfolding stepped moved
remembers_on s R r p M = go (has_entry s r) refl
  where
    go : (b : Bool) → has_entry s r ≡ b → Remembered s (cond b (moved s r p (entry_in s r)) r)
    go true e k = sym (R.passes_on_fact (entry_in s r) (entry_exists s r e) k)
    go false e k = M k

-- where an entry is in force the lookup finds it, and a step goes by it
module _ (s : List ℕ) (S : Screened s) (r : RunState) (e : ℕ) (F : InForce s r e) (pos : 1 ≤ r.scale) where
  fits : (l : ℕ) → l < links_of s → r.queue l ≤ r.scale * cap_of s l
  fits l lt = (F.cell.holds l lt).cap

  pub looks_up : entry_in s r ≡ e
  looks_up =
      let same = (one_cell s S.readable r.scale r.queue pos fits).1 (cell_of s e) F.cell in
      finds_entry s S.readable _ _ e F.exists same F.mode

  has_entry_lem : has_entry s r ≡ true
  unfolding has_entry
  has_entry_lem =
      let exists : entry_in s r < entries_of s = rw looks_up F.exists in
      both_and _ _ (each-every (links_of s) _ (λ l lt. le-leb _ _ (fits l lt))) (lt-ltb _ _ exists)

  pub moves : (p : Step) → stepped s r p ≡ moved s r p e
  unfolding stepped
  moves p = rw (has_entry_lem, looks_up)

  -- the limits of the step are those that the entry is judged by
  pub same_limits : Remembered s r → limit_of s r.shown (signal_of s e) ≡ entry_limit s e
  same_limits M = go (remembers s) refl
    where
      go : (b : Bool) → remembers s ≡ b → limit_of s r.shown (signal_of s e) ≡ entry_limit s e
      go true k = rw (M k, F.mode)
      go false k = fun_ext (λ l. plain_limits s k _ _ l ∙ sym (plain_limits s k _ _ l))

  -- the state after the step, by given limits
  by_limits : Step → (ℕ → ℕ) → RunState
  by_limits p limit =
      record {
        scale = 10000 * common_scale r p;
        queue = next (network_of s) limit (common_scale r p) (queues_over r p) (arrivals_over r p);
        mode = next_mode_of s e;
        shown = (moved s r p e).shown;
      }

  goes_by : Remembered s r → (p : Step) → stepped s r p ≡ by_limits p (entry_limit s e)
  unfolding moved by_limits
  goes_by M p = moves p ∙ ap (by_limits p) (same_limits M)

module _ (s : List ℕ) (S : Screened s) (holds : (e : ℕ) → e < entries_of s → EntryHolds s e) where
  module _ (r : RunState) (e : ℕ) (p : Step) (F : InForce s r e) (pos : 1 ≤ r.scale) where
    -- the next queues lie in a cell that is a successor, so it is listed for the next mode, and lower
    follower : Remembered s r → ProperStep s p → Follower s e (stepped s r p)
    unfolding by_limits
    follower M P =
        let D : ℕ = common_scale r p in
        let over : 1 ≤ D = mul-pos pos (arrivals_scale s p P) in
        let scale : 1 ≤ 10000 * D = omega arith in
        let queue : ℕ → ℕ = next (network_of s) (entry_limit s e) D (queues_over r p) (arrivals_over r p) in
        let below : (l : ℕ) → l < links_of s → queue l ≤ 10000 * D * cap_of s l = λ l lt. rw mul_assoc (next_fits _ _ _ _ _ l) in
        let cell : InCell s (cell_at s (10000 * D) queue) (10000 * D) queue = (one_cell s S.readable _ queue scale below).0 in
        let meets =
        steps_to_successor s S.readable (is_green s (signal_of s e)) (entry_limit s e) (entry_sound s S e F.exists) p.box (cell_of s e) _ D (queues_over r p) (arrivals_over r p)
        P.box over (same_cell s pos over (λ l _. omega arith) F.cell) (in_box s p P r) cell in
        let successor = (holds e F.exists).successors p.box _ P.box cell.exists meets in
        let f = successor.0.0 in
        let lists = successor.0.1 in
        rw (goes_by s S r e F pos M p) (record {
          scale = scale;
          entry = f;
          in_force = record { exists = lists.exists; cell = rw lists.cell cell; mode = lists.mode };
          next_mode = refl;
          lower = successor.1 f lists;
        })

  pub steady : Steady s
  steady =
      record {
        safe = λ r e F. below_bound F.cell (safe_of s) (holds e F.exists).safe;
        goal = λ r e F z. rw (← F.mode) (below_bound F.cell (goal_for s (mode_of s e)) ((holds e F.exists).rank.0 z));
        step = follower;
        memory = remembers_on s S.readable;
      }
