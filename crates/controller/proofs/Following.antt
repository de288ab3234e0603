-- The controller beside a run: an answer that shows the entry in force shows the run's next step, and a query for the run's queues finds that entry.
-- Assumes nothing.
use Prim.Native.Nat.{ℕ, zero, suc, ◌*◌, ◌≤◌, ◌<◌}
use mathlib.Core.List.{List, [], ◌∷◌}
use mathlib.Core.Path.{◌≡◌, refl, sym, ap, ◌∙◌}
use native.Mathlib.Nat.{mul_comm}
use native.Mathlib.Omega.{arith}
use lib.ListN.{length, get_or}
use Rattle.certificate.specs.Layout.{links_of, cap_of, cell_of, next_mode_of}
use Rattle.network.specs.Laws.{Screened}
use Rattle.grid.specs.Cells.{InCell}
use Rattle.grid.proofs.Intervals.{one_cell}
use Rattle.judging.specs.Asking.{queue_at, cell_asked}
use Rattle.judging.proofs.Verdicts.{accepted_is_plain}
use Rattle.runs.specs.Fractions.{Fraction}
use Rattle.runs.specs.Runs.{RunState, Step, start, InForce, moved, stepped, after, moment_of, Remembered, ProperSteps}
use Rattle.runs.proofs.Fractions.{scale_least}
use Rattle.runs.proofs.Cells.{same_cell}
use Rattle.runs.proofs.Steps.{Steady, steady, looks_up, moves}
use Rattle.runs.proofs.RunClaim.{moment_scale, run_theorem}
use Rattle.controller.specs.declared.Controller.{Controller}
use Rattle.controller.specs.State.{in_mode, stored}
use Rattle.controller.specs.Query.{showing, query_of}
use Rattle.controller.specs.Laws.{Query, no_query, after_queries, StandsAt, AsksFor, ShowsStep, QueryFollowsRun, AcceptedRun, LoadStands, QueryAtMoment, QueriesFollowRun}
use Rattle.controller.proofs.Holding.{holds_in_mode, accepted_holds, load_accepted}
use Rattle.controller.proofs.Lookups.{shown}

-- a state that stands at a run holds a screened certificate
pub screened : (s : List ℕ) (r : RunState) (c : Controller) → StandsAt s r c → Screened s
screened s r c A = rw A.copy at A.holds.screened

-- an entry is in force, and the state stands there
module _ (s : List ℕ) (r : RunState) (e : ℕ) (c : Controller) (pos : 1 ≤ r.scale) (F : InForce s r e) (A : StandsAt s r c) where
  -- the answer that shows that entry shows the next step
  pub shows_step : ShowsStep s r (showing c e)
  unfolding moved
  shows_step =
      let S = screened s r c A in
      record {
        report = refl;
        signal = rw (A.copy, looks_up s S r e F pos);
        mode = rw (A.copy, looks_up s S r e F pos);
        step = λ p. moves s S r e F pos p ∙ rw A.copy;
      }

  -- the state in its next mode stands at the state after the step
  pub stands_next : (p : Step) → StandsAt s (stepped s r p) (in_mode c (next_mode_of (stored c) e))
  stands_next p =
      record {
        holds = holds_in_mode c _ A.holds;
        copy = A.copy;
        mode = sym (ap (λ (t : RunState). t.mode) (shows_step.step p));
      }

module _ (s : List ℕ) (r : RunState) (e : ℕ) (c : Controller) (q : Query) (pos : 1 ≤ r.scale) (F : InForce s r e) (A : StandsAt s r c) (Q : AsksFor s r q) where
  -- equal fractions lie in the same cell, so the cell asked for is that of the entry in force
  cell_asked_lem : cell_of s e ≡ cell_asked s q.queues q.scale
  cell_asked_lem =
      let least = Q.proper.scale_least in
      let cell : InCell s (cell_of s e) q.scale (queue_at q.queues) = same_cell s pos least Q.same F.cell in
      let fits : (l : ℕ) → l < links_of s → queue_at q.queues l ≤ q.scale * cap_of s l = λ l lt. rw (mul_comm q.scale (cap_of s l)) (Q.proper.queue_most l lt) in
      (one_cell s (screened s r c A).readable q.scale (queue_at q.queues) least fits).1 (cell_of s e) cell

  shows : query_of c q.queues q.scale ≡ showing c e
  shows =
      shown c q.queues q.scale e A.holds (rw A.copy Q.proper)
      (rw (A.copy, A.mode) (record { exists = F.exists; cell = cell_asked_lem; mode = F.mode }))

pub query_follows_run : QueryFollowsRun
query_follows_run s r e c q pos F A Q = rw (shows s r e c q pos F A Q) (shows_step s r e c pos F A)

pub load_stands : LoadStands
load_stands c s queues ok =
    let held = accepted_holds s ok in
    rw (load_accepted c s ok) (record { holds = held.0; copy = held.1; mode = refl })

pub query_at_moment : QueryAtMoment
query_at_moment s mode queues steps R k le c q A Q =
    let f = (run_theorem s R.accepted mode queues steps R.entry R.first R.proper R.in_force).listed k le in
    query_follows_run s _ f.0 c q (moment_scale s mode queues steps R.first R.proper k) f.1 A Q

-- the state after the query stands at the state after the step
pub passes : (s : List ℕ) (r : RunState) (e : ℕ) (c : Controller) (q : Query) → 1 ≤ r.scale → InForce s r e → StandsAt s r c → AsksFor s r q
    → (p : Step) → StandsAt s (stepped s r p) (query_of c q.queues q.scale).state
passes s r e c q pos F A Q p = rw (shows s r e c q pos F A Q) (stands_next s r e c pos F A p)

-- calls of one kind, Q: a call passes to the state `next`, and a list of them, one after another, to the state `last`
module _ {Q : Type 0} (none : Q) (next : Controller → Q → Controller) (last : Controller → List Q → Controller)
    (ends : (c : Controller) → last c [] ≡ c) (goes_on : (c : Controller) (q : Q) (qs : List Q) → last c (q ∷ qs) ≡ last (next c q) qs)
    (s : List ℕ) (Asks : RunState → Q → Type 0)
    (passes_on_fact : (r : RunState) (e : ℕ) (c : Controller) (q : Q) → 1 ≤ r.scale → InForce s r e → StandsAt s r c → Asks r q
    → (p : Step) → StandsAt s (stepped s r p) (next c q)) where
  -- along a list of steps
  stands : Steady s → (r : RunState) (e : ℕ) (c : Controller) (steps : List Step) (qs : List Q)
      → 1 ≤ r.scale → InForce s r e → Remembered s r → ProperSteps s steps → StandsAt s r c → length qs ≤ length steps
      → ((k : ℕ) → k < length qs → Asks (moment_of s r steps k) (get_or qs k none))
      → StandsAt s (moment_of s r steps (length qs)) (last c qs)
  unfolding after
  stands S r e c steps [] pos F M P A le asked = rw ends A
  stands S r e c [] (q ∷ qs) pos F M P A le asked = absurd (omega arith)
  stands S r e c (p ∷ ps) (q ∷ qs) pos F M P A le asked =
      let f = S.step r e p F pos M (P zero (omega arith)) in
      rw goes_on
      (stands S (stepped s r p) f.entry _ ps qs f.scale f.in_force (S.memory r p M) (λ k lt. P (suc k) (omega arith))
      (passes_on_fact r e c q pos F A (asked zero (omega arith)) p) (omega arith) (λ k lt. asked (suc k) (omega arith)))

  -- from moment 0 of a run of an accepted certificate
  pub calls_follow_run : (mode : ℕ) (queues : List Fraction) (steps : List Step) → AcceptedRun s mode queues steps
      → (c : Controller) (qs : List Q) → StandsAt s (start s queues mode) c → length qs ≤ length steps
      → ((k : ℕ) → k < length qs → Asks (moment_of s (start s queues mode) steps k) (get_or qs k none))
      → StandsAt s (moment_of s (start s queues mode) steps (length qs)) (last c qs)
  calls_follow_run mode queues steps R c qs A le asked =
      let plain = (accepted_is_plain s).0 R.accepted in
      let scale = scale_least queues (links_of s) R.first.count R.first.scales in
      stands (steady s plain.0 plain.1) _ R.entry c steps qs scale R.in_force (λ _. refl) R.proper A le asked

pub queries_follow_run : QueriesFollowRun
unfolding after_queries
queries_follow_run s =
    calls_follow_run no_query (λ c q. (query_of c q.queues q.scale).state) after_queries (λ c. refl) (λ c q qs. refl) s (AsksFor s) (passes s)
