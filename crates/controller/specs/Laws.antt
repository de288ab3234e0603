-- What is proved of load, query and write, and of calls that follow one another (proofs/ of this crate). Statements only.
use Rattle.std.specs.Prelude.{ℕ, ◌+◌, ◌*◌, ◌≤◌, ◌<◌, List, [], ◌∷◌, ◌++◌, true, ◌↔◌, ◌⊎◌, ◌≡◌, length, take, drop, get_or}
use Rattle.certificate.specs.Checks.{report_with, refusal, fine}
use Rattle.certificate.specs.Layout.{max_length, links_of, signals_of, modes_of, entries_of, green_byte_of, signal_of, next_mode_of}
use Rattle.network.specs.Network.{network_of, limit_of}
use Rattle.network.specs.Flow.{next}
use Rattle.network.specs.Laws.{Screened}
use Rattle.judging.specs.Verdict.{verdict_of}
use Rattle.judging.specs.Overflow.{overflows_before}
use Rattle.judging.specs.Conditions.{Lists}
use Rattle.judging.specs.Asking.{queue_at, cell_asked, Proper}
use Rattle.runs.specs.Fractions.{Fraction}
use Rattle.runs.specs.Runs.{RunState, Step, start, InForce, entry_in, common_scale, queues_over, arrivals_over, stepped, moment_of, ProperQueues, ProperSteps}
use Rattle.controller.specs.declared.Controller.{Controller}
use Rattle.controller.specs.declared.Shown.{Shown}
use Rattle.controller.specs.State.{fresh_state, holding, in_mode, stored, holds_certificate, load_of}
use Rattle.controller.specs.Query.{query_of}
use Rattle.controller.specs.Write.{write_report, write_buffer}

-- The state.

-- the state holds a certificate: its length fits the array, and its stored bytes pass every test that comes before 12
pub record HoldsCertificate (c : Controller) : Type 0 where
  pub fits : c.len ≤ max_length
  pub screened : Screened (stored c)

abbrev pub HoldsIsPlain : Type 0
HoldsIsPlain = (c : Controller) → (holds_certificate c ≡ true) ↔ HoldsCertificate c

-- a fresh state is in mode 0 and holds none
abbrev pub FreshInModeZero : Type 0
FreshInModeZero = fresh_state.mode ≡ 0

abbrev pub FreshHoldsNone : Type 0
FreshHoldsNone = HoldsCertificate fresh_state → ⊥

-- the state after an accepted load holds a certificate, and its stored bytes are those that were loaded
abbrev pub AcceptedHolds : Type 0
AcceptedHolds = (s : List ℕ) → (verdict_of s).number ≡ 0 → HoldsCertificate (holding s) × (stored (holding s) ≡ s)

-- Loading.

abbrev pub LoadAccepted : Type 0
LoadAccepted =
    (c : Controller) (s : List ℕ) → (verdict_of s).number ≡ 0
    → load_of c s ≡ record { report = verdict_of s; overflows = overflows_before s (entries_of s); state = holding s }

abbrev pub LoadRefused : Type 0
LoadRefused =
    (c : Controller) (s : List ℕ) → ((verdict_of s).number ≡ 0 → ⊥) → load_of c s ≡ record { report = verdict_of s; overflows = 0; state = c }

-- Queries. The tests come in the order 18, 16, 19.

-- entry e lists the queues' cell for the current mode
abbrev pub ListsAsked : Controller → List ℕ → ℕ → ℕ → Type 0
ListsAsked c queues scale e = Lists (stored c) (cell_asked (stored c) queues scale) c.mode e

-- 18: no certificate is loaded
abbrev pub QueryEmpty : Type 0
QueryEmpty =
    (c : Controller) (queues : List ℕ) (scale : ℕ) → ((query_of c queues scale).report.number ≡ 18) ↔ (HoldsCertificate c → ⊥)

-- 16: the scale, the number of queues or a queue breaks its line
abbrev pub QueryImproper : Type 0
QueryImproper =
    (c : Controller) (queues : List ℕ) (scale : ℕ)
    → ((query_of c queues scale).report.number ≡ 16) ↔ (HoldsCertificate c × (Proper (stored c) queues scale → ⊥))

-- 19: no entry for the queues' cell in the current mode
abbrev pub QueryUnlisted : Type 0
QueryUnlisted =
    (c : Controller) (queues : List ℕ) (scale : ℕ)
    → ((query_of c queues scale).report.number ≡ 19)
    ↔ (HoldsCertificate c × Proper (stored c) queues scale × ((e : ℕ) → ListsAsked c queues scale e → ⊥))

-- success: some entry lists the queues' cell for the current mode
abbrev pub QuerySucceeds : Type 0
QuerySucceeds =
    (c : Controller) (queues : List ℕ) (scale : ℕ)
    → ((query_of c queues scale).report.number ≡ 0)
    ↔ (HoldsCertificate c × Proper (stored c) queues scale × ((e : ℕ) × ListsAsked c queues scale e))

-- a query shows that entry's signal and the signal's green byte, and passes to its next mode; the rest of the state is as it was
abbrev pub QueryShows : Type 0
QueryShows =
    (c : Controller) (queues : List ℕ) (scale e : ℕ) → HoldsCertificate c → Proper (stored c) queues scale → ListsAsked c queues scale e
    → query_of c queues scale ≡ record {
      report = fine;
      signal = signal_of (stored c) e;
      green = green_byte_of (stored c) (signal_of (stored c) e);
      state = record { bytes = c.bytes; len = c.len; mode = next_mode_of (stored c) e };
    }

-- what a successful query shows exists: the signal is one of the certificate's, the green byte is that signal's, the next mode is one of its modes
pub record ShowsExisting (s : List ℕ) (shown : Shown) : Type 0 where
  pub signal : shown.signal < signals_of s
  pub green : shown.green ≡ green_byte_of s shown.signal
  pub mode : shown.state.mode < modes_of s

abbrev pub QueryExists : Type 0
QueryExists =
    (c : Controller) (queues : List ℕ) (scale : ℕ) → (query_of c queues scale).report.number ≡ 0
    → ShowsExisting (stored c) (query_of c queues scale)

-- a refused query has no places and no count, shows signal and green byte 0, and leaves the whole state as it was
abbrev pub QueryRefused : Type 0
QueryRefused =
    (c : Controller) (queues : List ℕ) (scale : ℕ) → ((query_of c queues scale).report.number ≡ 0 → ⊥)
    → query_of c queues scale ≡ record { report = refusal (query_of c queues scale).report.number 0; signal = 0; green = 0; state = c }

-- the number is one of 0, 16, 18, 19
abbrev pub QueryNumbers : Type 0
QueryNumbers =
    (c : Controller) (queues : List ℕ) (scale : ℕ)
    → ((query_of c queues scale).report.number ≡ 0) ⊎ (((query_of c queues scale).report.number ≡ 16)
    ⊎ (((query_of c queues scale).report.number ≡ 18) ⊎ ((query_of c queues scale).report.number ≡ 19)))

-- Writing. The tests come in the order 18, 17.

-- what 17 asks: the start lies within the buffer, and the part from there is no shorter than the certificate
abbrev pub RoomFor : Controller → List ℕ → ℕ → Type 0
RoomFor c buffer start = start + c.len ≤ length buffer

abbrev pub WriteEmpty : Type 0
WriteEmpty = (c : Controller) (buffer : List ℕ) (start : ℕ) → ((write_report c buffer start).number ≡ 18) ↔ (HoldsCertificate c → ⊥)

abbrev pub WriteShort : Type 0
WriteShort =
    (c : Controller) (buffer : List ℕ) (start : ℕ)
    → ((write_report c buffer start).number ≡ 17) ↔ (HoldsCertificate c × (RoomFor c buffer start → ⊥))

abbrev pub WriteSucceeds : Type 0
WriteSucceeds =
    (c : Controller) (buffer : List ℕ) (start : ℕ)
    → ((write_report c buffer start).number ≡ 0) ↔ (HoldsCertificate c × RoomFor c buffer start)

-- success: A is the certificate's length, and the buffer is its own bytes before start, the certificate, and its own bytes from there on
abbrev pub WriteDone : Type 0
WriteDone =
    (c : Controller) (buffer : List ℕ) (start : ℕ) → (write_report c buffer start).number ≡ 0
    → (write_report c buffer start ≡ report_with 0 c.len 0 0)
    × (write_buffer c buffer start ≡ take start buffer ++ (stored c ++ drop (start + c.len) buffer))

-- a refused write has no places and no count, and leaves the buffer as it was
abbrev pub WriteRefused : Type 0
WriteRefused =
    (c : Controller) (buffer : List ℕ) (start : ℕ) → ((write_report c buffer start).number ≡ 0 → ⊥)
    → (write_report c buffer start ≡ refusal (write_report c buffer start).number 0) × (write_buffer c buffer start ≡ buffer)

-- the number is one of 0, 17, 18, and A is at most the buffer's length
abbrev pub WriteNumbers : Type 0
WriteNumbers =
    (c : Controller) (buffer : List ℕ) (start : ℕ)
    → (((write_report c buffer start).number ≡ 0) ⊎ (((write_report c buffer start).number ≡ 17) ⊎ ((write_report c buffer start).number ≡ 18)))
    × ((write_report c buffer start).a ≤ length buffer)

-- Calls that follow one another.

pub record Query : Type 0 where
  pub queues : List ℕ
  pub scale : ℕ

-- the state after a list of queries
unfoldable pub after_queries : Controller → List Query → Controller
after_queries c [] = c
after_queries c (q ∷ qs) = after_queries (query_of c q.queues q.scale).state qs

-- queries change nothing but the mode
abbrev pub QueriesKeep : Type 0
QueriesKeep = (c : Controller) (qs : List Query) → after_queries c qs ≡ in_mode c (after_queries c qs).mode

-- what was written of s by state w is s, and loads as accepted from any state d, with the same numbers
pub record WritesBack (s : List ℕ) (w d : Controller) (buffer : List ℕ) (start : ℕ) : Type 0 where
  pub size : (write_report w buffer start).a ≡ length s
  pub bytes : take (length s) (drop start (write_buffer w buffer start)) ≡ s
  pub again : load_of d (take (length s) (drop start (write_buffer w buffer start)))
      ≡ record { report = verdict_of s; overflows = overflows_before s (entries_of s); state = holding s }

-- round trip: an accepted load, any queries since, a write that succeeds
abbrev pub RoundTrip : Type 0
RoundTrip =
    (c d : Controller) (s : List ℕ) (qs : List Query) (buffer : List ℕ) (start : ℕ) → (verdict_of s).number ≡ 0
    → (write_report (after_queries (load_of c s).state qs) buffer start).number ≡ 0
    → WritesBack s (after_queries (load_of c s).state qs) d buffer start

-- such a write succeeds wherever there is room for s
abbrev pub RoundTripWrites : Type 0
RoundTripWrites =
    (c : Controller) (s : List ℕ) (qs : List Query) (buffer : List ℕ) (start : ℕ) → (verdict_of s).number ≡ 0
    → start + length s ≤ length buffer → (write_report (after_queries (load_of c s).state qs) buffer start).number ≡ 0

-- The controller and a run: both look up the same entry, so a query shows the signal that the run's next step goes by.

-- the state stands at state r of a run of s: it holds a copy of s, and is in the run's mode
pub record StandsAt (s : List ℕ) (r : RunState) (c : Controller) : Type 0 where
  pub holds : HoldsCertificate c
  pub copy : stored c ≡ s
  pub mode : c.mode ≡ r.mode

-- a proper query for the queues of r: each queue, over the query's scale, is that of the run over its scale, by cross products
pub record AsksFor (s : List ℕ) (r : RunState) (q : Query) : Type 0 where
  pub proper : Proper s q.queues q.scale
  pub same : (l : ℕ) → l < links_of s → queue_at q.queues l * r.scale ≡ r.queue l * q.scale

-- a query that succeeds and shows what the next step of the run goes by
pub record ShowsStep (s : List ℕ) (r : RunState) (shown : Shown) : Type 0 where
  pub report : shown.report ≡ fine
  -- the entry that the run looks up: its signal, and its next mode
  pub signal : shown.signal ≡ signal_of s (entry_in s r)
  pub mode : shown.state.mode ≡ next_mode_of s (entry_in s r)
  -- whatever arrives: the next queues are those of the flow rule under the signal shown, after the one that the run had last shown; the run's mode
  -- is the one that the state passed to
  pub step : (p : Step) → stepped s r p ≡ record {
    scale = 10000 * common_scale r p;
    queue = next (network_of s) (limit_of s r.shown shown.signal) (common_scale r p) (queues_over r p) (arrivals_over r p);
    mode = shown.state.mode;
    shown = shown.signal;
  }

-- where an entry is in force, a state that stands there and is asked for the queues shows the next step
abbrev pub QueryFollowsRun : Type 0
QueryFollowsRun =
    (s : List ℕ) (r : RunState) (e : ℕ) (c : Controller) (q : Query) → 1 ≤ r.scale → InForce s r e → StandsAt s r c → AsksFor s r q
    → ShowsStep s r (query_of c q.queues q.scale)

-- a run of an accepted certificate, as demand 3 has it: the first queues' cell is listed for the first mode
pub record AcceptedRun (s : List ℕ) (mode : ℕ) (queues : List Fraction) (steps : List Step) : Type 0 where
  pub accepted : (verdict_of s).number ≡ 0
  pub first : ProperQueues s queues
  pub proper : ProperSteps s steps
  pub entry : ℕ
  pub in_force : InForce s (start s queues mode) entry

-- the state after an accepted load stands at moment 0 of each of its runs whose first mode is 0
abbrev pub LoadStands : Type 0
LoadStands =
    (c : Controller) (s : List ℕ) (queues : List Fraction) → (verdict_of s).number ≡ 0 → StandsAt s (start s queues 0) (load_of c s).state

-- at every moment a state that stands there and is asked for the queues shows the next step
abbrev pub QueryAtMoment : Type 0
QueryAtMoment =
    (s : List ℕ) (mode : ℕ) (queues : List Fraction) (steps : List Step) → AcceptedRun s mode queues steps
    → (k : ℕ) → k ≤ length steps → (c : Controller) (q : Query)
    → StandsAt s (moment_of s (start s queues mode) steps k) c → AsksFor s (moment_of s (start s queues mode) steps k) q
    → ShowsStep s (moment_of s (start s queues mode) steps k) (query_of c q.queues q.scale)

-- a query that stands past the end of a list
abbrev pub no_query : Query
no_query = record { queues = []; scale = 0 }

-- and a state that stands at moment 0 and is asked for the queues of one moment after another stands at the moment after the last
abbrev pub QueriesFollowRun : Type 0
QueriesFollowRun =
    (s : List ℕ) (mode : ℕ) (queues : List Fraction) (steps : List Step) → AcceptedRun s mode queues steps
    → (c : Controller) (qs : List Query) → StandsAt s (start s queues mode) c → length qs ≤ length steps
    → ((k : ℕ) → k < length qs → AsksFor s (moment_of s (start s queues mode) steps k) (get_or qs k no_query))
    → StandsAt s (moment_of s (start s queues mode) steps (length qs)) (after_queries c qs)
