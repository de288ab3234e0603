-- Where no entry is counted, no arrival is turned away along a run. Assumes nothing.
use Prim.Native.Nat.{ℕ, zero, suc, ◌≤◌, ◌<◌}
use mathlib.Core.Bool.{false}
use mathlib.Core.List.{List, [], ◌∷◌}
use mathlib.Core.Path.{◌≡◌, refl}
use native.Mathlib.Nat.{mul-pos}
use native.Mathlib.Numerals.{add-one}
use native.Mathlib.Omega.{arith}
use lib.ListN.{length, get_or}
use Rattle.certificate.specs.Layout.{links_of, entries_of, cell_of}
use Rattle.network.specs.Network.{Network}
use Rattle.network.specs.Flow.{gross, next}
use Rattle.network.specs.Laws.{Screened}
use Rattle.grid.proofs.Edges.{in_closed_cell}
use Rattle.judging.specs.Overflow.{entry_overflows}
use Rattle.judging.proofs.Verdicts.{accepted_is_plain}
use Rattle.judging.proofs.Overflows.{not_cut, none_overflows}
use Rattle.runs.specs.Runs.{RunState, Step, InForce, common_scale, queues_over, arrivals_over, moved, stepped, after, moment_of, no_step}
use Rattle.runs.specs.Laws.{TakesAll, StepTakesAll, NoneTurnedAway}
use Rattle.runs.proofs.Fractions.{scale_least}
use Rattle.runs.proofs.Cells.{same_cell}
use Rattle.runs.proofs.Steps.{Steady, steady, arrivals_scale, in_box, moves, same_limits}
use Rattle.runs.proofs.Moments.{Run, rest}

-- what holds by one limit holds by the same under another name
by_limit : (N : Network) (D n : ℕ) (x a : ℕ → ℕ) {limit other : ℕ → ℕ} → limit ≡ other
    → ((l : ℕ) → l < n → next N other D x a l ≡ gross N other D x a l) → (l : ℕ) → l < n → next N limit D x a l ≡ gross N limit D x a l
by_limit N D n x a same h = rw same h

pub step_takes_all : StepTakesAll
unfolding moved
step_takes_all s S r e p F pos M P none =
    let over : 1 ≤ common_scale r p = mul-pos pos (arrivals_scale s p P) in
    let closed = in_closed_cell s (cell_of s e) (common_scale r p) (queues_over r p) (same_cell s pos over (λ k _. omega arith) F.cell) in
    rw (moves s S r e F pos p) record {
      scale = refl;
      queue =
          by_limit _ _ _ _ _ (same_limits s S r e F pos M)
          (not_cut s S e F.exists none p.box (common_scale r p) (queues_over r p) (arrivals_over r p) P.box over closed (in_box s p P r));
    }

-- along a run, step by step
module _ (s : List ℕ) (S : Screened s) (steadily : Steady s) (none : (e : ℕ) → e < entries_of s → entry_overflows s e ≡ false) where
  each : {r : RunState} {e : ℕ} {steps : List Step} → Run s r e steps → (k : ℕ) → k < length steps
      → (f : ℕ) × InForce s (moment_of s r steps k) f × TakesAll s (moment_of s r steps k) (get_or steps k no_step) f (moment_of s r steps (suc k))
  unfolding after
  each {steps = []} R k lt = absurd (omega arith)
  each {r} {e} {steps = p ∷ ps} R zero lt =
      (e, R.in_force, step_takes_all s S r e p R.in_force R.scale R.remembered (R.proper zero (omega arith)) (none e R.in_force.exists))
  each {r} {steps = p ∷ ps} R (suc k) lt = each {r = stepped s r p} (rest s steadily R) k (omega arith)

pub none_turned_away : NoneTurnedAway
none_turned_away s accepted zeros mode queues steps e Q P F k lt =
    let plain = (accepted_is_plain s).0 accepted in
    let scale = scale_least queues (links_of s) Q.count Q.scales in
    rw add-one (each s plain.0 (steady s plain.0 plain.1) (none_overflows s accepted zeros) (record { scale = scale; in_force = F; remembered = λ _. refl; proper = P }) k lt)
