-- A poll and the queries for its cell; queries and polls one after another, and beside a run. Assumes nothing.
use Prim.Native.Nat.{ℕ, ◌≤◌, ◌<◌}
use mathlib.Core.List.{List, [], ◌∷◌}
use mathlib.Core.Logic.{⊎_elim}
use mathlib.Core.Path.{◌≡◌, refl, sym, ap, ◌∙◌}
use native.Mathlib.Omega.{arith}
use lib.Pow.{pow_pos}
use Rattle.certificate.specs.Checks.{refusal}
use Rattle.certificate.specs.Layout.{links_of, cell_of, cells_of}
use Rattle.certificate.specs.Facts.{Readable}
use Rattle.grid.specs.Intervals.{InInterval}
use Rattle.grid.specs.Cells.{interval_in, lower_of}
use Rattle.grid.proofs.Numbers.{is_choice}
use Rattle.grid.proofs.Edges.{lower_most, lower_below_upper}
use Rattle.grid.proofs.Intervals.{one_cell}
use Rattle.judging.specs.Verdict.{verdict_of}
use Rattle.judging.specs.Asking.{queue_at, cell_asked, Proper}
use Rattle.judging.proofs.Deciding.{tells_split}
use Rattle.judging.proofs.Entries.{listed_tells}
use Rattle.octets.specs.Tables.{table_of}
use Rattle.octets.proofs.FilledTables.{table_length, table_at}
use Rattle.runs.specs.Runs.{RunState, Step, InForce, stepped}
use Rattle.runs.proofs.RunClaim.{moment_scale, run_theorem}
use Rattle.controller.specs.declared.Controller.{Controller}
use Rattle.controller.specs.declared.Loaded.{Loaded}
use Rattle.controller.specs.State.{holding, in_mode, stored, load_of}
use Rattle.controller.specs.Query.{showing, refused, query_of}
use Rattle.controller.specs.Laws.{HoldsCertificate, StandsAt}
use Rattle.controller.proofs.Holding.{load_accepted}
use Rattle.controller.proofs.Lookups.{shown, unlisted, query_keeps}
use Rattle.controller.proofs.RoundTrip.{writes_back, writes_again}
use Rattle.controller.proofs.Following.{screened, shows_step, stands_next, passes}
use Rattle.controller.proofs.Following.{calls_follow_run as along}
use Rattle.detectors.specs.Polls.{readings_of, cell_polled}
use Rattle.detectors.specs.Laws.{GoodPoll, ListsPolled}
use Rattle.detectors.proofs.Cells.{poll_cell, poll_scale}
use Rattle.polls.specs.Poll.{poll_of}
use Rattle.polls.specs.Laws.{PollIsQuery, Call, call_of, after_calls, CallsKeep, CallsRoundTrip, CallsRoundTripWrites, ReadsQueues, PollFollowsRun, PollAtMoment, CallAsks, no_call, CallsFollowRun}
use Rattle.polls.specs.Laws.Call.{query, poll}
use Rattle.polls.proofs.Answers.{poll_unlisted, poll_shows, poll_refused, poll_keeps}

-- the lower edges of a cell, as queues over scale 1, lie in that cell
module _ (s : List ℕ) (R : Readable s) (d : ℕ) (exists : d < cells_of s) where
  edges : List ℕ
  edges = table_of (links_of s) (lower_of s d)

  edge : (l : ℕ) → l < links_of s → queue_at edges l ≡ lower_of s d l
  unfolding edges
  edge l lt = table_at (lower_of s d) (links_of s) 0 l lt ∙ ap (lower_of s d) (omega arith)

  edges_proper : Proper s edges 1
  unfolding edges
  edges_proper =
      record {
        scale_least = omega arith;
        scale_most = omega arith;
        number = table_length (lower_of s d) (links_of s) 0;
        queue_most = λ l lt. rw (edge l lt) (omega (arith, lower_most s R l lt (interval_in s d l) (is_choice s R d l lt)));
      }

  edges_cell : cell_asked s edges 1 ≡ d
  edges_cell = sym ((one_cell s R 1 (queue_at edges) (omega arith) (λ l lt. (here l lt).cap)).1 d (record { exists = exists; holds = here }))
    where
      here : (l : ℕ) → l < links_of s → InInterval s l (interval_in s d l) 1 (queue_at edges l)
      here l lt =
          let i = is_choice s R d l lt in
          rw (edge l lt) (record {
            exists = i;
            lower = omega arith;
            upper = λ inner. omega (arith, lower_below_upper s R l lt (interval_in s d l) i);
            cap = omega (arith, lower_most s R l lt (interval_in s d l) i);
          })

-- a good poll whose cell is not listed
poll_turned : (c : Controller) (p : List ℕ) → ((e : ℕ) → ListsPolled (stored c) c.mode p e → ⊥) → HoldsCertificate c → GoodPoll (stored c) p
    → poll_of c p ≡ refused c (refusal 19 0)
poll_turned c p none h g =
    let report : (poll_of c p).report ≡ refusal 19 0 = (poll_unlisted c p).1 (h, (g, none)) in
    let some : (poll_of c p).report.number ≡ 0 → ⊥ = rw report (λ z. omega arith) in
    poll_refused c p some ∙ rw report

pub poll_is_query : PollIsQuery
poll_is_query c p h g = record { every = every; some = (edges s R d exists, (1, (edges_proper s R d exists, edges_cell s R d exists))) }
  where
    s : List ℕ
    s = stored c

    R : Readable s
    R = h.screened.readable

    d : ℕ
    d = cell_polled s (readings_of p)

    exists : d < cells_of s
    exists = let x = poll_scale s p g.good in (poll_cell s R (readings_of p) g.good _ x.0 (pow_pos 1074) x.1.over).0.exists

    every : (queues : List ℕ) (scale : ℕ) → Proper s queues scale → cell_asked s queues scale ≡ d → query_of c queues scale ≡ poll_of c p
    every queues scale P same =
        ⊎_elim
        (λ f. shown c queues scale f.0 h P (rw same f.1) ∙ sym (poll_shows c p f.0 h g f.1))
        (λ none.
        unlisted c queues scale h P (λ e i. none (e, rw same at i)) ∙ sym (poll_turned c p (λ e i. none (e, i)) h g))
        (tells_split _ (listed_tells s d c.mode))

-- Calls that follow one another.

pub call_keeps : (c : Controller) (k : Call) → (call_of c k).state ≡ in_mode c (call_of c k).state.mode
unfolding call_of
call_keeps c (query q) = query_keeps c q.queues q.scale
call_keeps c (poll p) = poll_keeps c p

pub calls_keep : CallsKeep
unfolding after_calls
calls_keep c [] = refl
calls_keep c (k ∷ ks) =
    let next = (call_of c k).state in
    calls_keep next ks ∙ ap (λ (d : Controller). in_mode d (after_calls next ks).mode) (call_keeps c k)

-- the state that loaded s, and then answered queries and polls, is the loaded state in some mode
kept : (c : Controller) (s : List ℕ) (ks : List Call) → (verdict_of s).number ≡ 0
    → after_calls (load_of c s).state ks ≡ in_mode (holding s) (after_calls (load_of c s).state ks).mode
kept c s ks ok =
    let loaded : (load_of c s).state ≡ holding s = ap (λ (l : Loaded). l.state) (load_accepted c s ok) in
    rw loaded (calls_keep (holding s) ks)

pub calls_round_trip : CallsRoundTrip
calls_round_trip c d s ks buffer start ok written = let same = kept c s ks ok in rw same (writes_back s _ d buffer start ok (rw same at written))

pub calls_round_trip_writes : CallsRoundTripWrites
calls_round_trip_writes c s ks buffer start ok room =
    rw (kept c s ks ok) (writes_again s (after_calls (load_of c s).state ks).mode buffer start ok room)

-- Beside a run: the cell of the run's queues is the one found, so the entry in force is the one that the poll shows.

module _ (s : List ℕ) (r : RunState) (e : ℕ) (c : Controller) (p : List ℕ) (pos : 1 ≤ r.scale) (F : InForce s r e) (A : StandsAt s r c) (Q : ReadsQueues s r p) where
  shows : poll_of c p ≡ showing c e
  shows =
      let cell : cell_of s e ≡ cell_polled s (readings_of p) =
      (poll_cell s (screened s r c A).readable (readings_of p) Q.good.good r.scale r.queue pos Q.same).1 (cell_of s e) F.cell in
      poll_shows c p e A.holds (rw A.copy Q.good) (rw (A.copy, A.mode) (record { exists = F.exists; cell = cell; mode = F.mode }))

pub poll_follows_run : PollFollowsRun
poll_follows_run s r e c p pos F A Q = rw (shows s r e c p pos F A Q) (shows_step s r e c pos F A)

pub poll_at_moment : PollAtMoment
poll_at_moment s mode queues steps R k le c p A Q =
    let f = (run_theorem s R.accepted mode queues steps R.entry R.first R.proper R.in_force).listed k le in
    poll_follows_run s _ f.0 c p (moment_scale s mode queues steps R.first R.proper k) f.1 A Q

-- the state after the call stands at the state after the step
call_passes : (s : List ℕ) (r : RunState) (e : ℕ) (c : Controller) (k : Call) → 1 ≤ r.scale → InForce s r e → StandsAt s r c → CallAsks s r k
    → (p : Step) → StandsAt s (stepped s r p) (call_of c k).state
unfolding call_of
call_passes s r e c (query q) pos F A Q p = passes s r e c q pos F A Q p
call_passes s r e c (poll b) pos F A Q p = rw (shows s r e c b pos F A Q) (stands_next s r e c pos F A p)

pub calls_follow_run : CallsFollowRun
unfolding after_calls
calls_follow_run s = along no_call (λ c k. (call_of c k).state) after_calls (λ c. refl) (λ c k ks. refl) s (CallAsks s) (call_passes s)
