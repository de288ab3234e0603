-- What is proved of polls of a state, of queries and polls that follow one another, and of polls beside runs (proofs/ of this crate).
-- Statements only.
use Rattle.std.specs.Prelude.{ℕ, ◌+◌, ◌≤◌, ◌<◌, List, [], ◌∷◌, ◌↔◌, ◌⊎◌, ◌≡◌, length, get_or}
use Rattle.certificate.specs.Checks.{refusal, fine}
use Rattle.certificate.specs.Layout.{cap_of}
use Rattle.certificate.specs.Entries.{DifferInRanks}
use Rattle.judging.specs.Verdict.{verdict_of}
use Rattle.judging.specs.Asking.{cell_asked, Proper}
use Rattle.runs.specs.Fractions.{Fraction}
use Rattle.runs.specs.Runs.{RunState, Step, start, InForce, moment_of}
use Rattle.controller.specs.declared.Controller.{Controller}
use Rattle.controller.specs.declared.Shown.{Shown}
use Rattle.controller.specs.State.{in_mode, stored, load_of}
use Rattle.controller.specs.Query.{showing, refused, query_of}
use Rattle.controller.specs.Write.{write_report}
use Rattle.controller.specs.Laws.{HoldsCertificate, ShowsExisting, Query, WritesBack, StandsAt, AsksFor, ShowsStep, AcceptedRun}
use Rattle.detectors.specs.Polls.{readings_of, cell_polled}
use Rattle.detectors.specs.Laws.{BadLink, SilentLink, Framed, FirstLink, GoodPoll, ReadOver, ListsPolled, PollAnswer, SameRead}
use Rattle.polls.specs.Poll.{poll_of}

-- The tests come in the order 18, 16, then 20 and 21 link by link, then 19.

-- 18: no certificate is loaded
abbrev pub PollEmpty : Type 0
PollEmpty = (c : Controller) (p : List ℕ) → ((poll_of c p).report ≡ refusal 18 0) ↔ (HoldsCertificate c → ⊥)

-- 16: the poll has more or fewer bytes than its links' detectors have, or one of these opens with another byte than 0 or 1
abbrev pub PollImproper : Type 0
PollImproper =
    (c : Controller) (p : List ℕ) → ((poll_of c p).report ≡ refusal 16 0) ↔ (HoldsCertificate c × (Framed (stored c) p → ⊥))

-- 20: link l is the first whose readings are not good, and a present one is not a number, below zero or above cap
abbrev pub PollBad : Type 0
PollBad =
    (c : Controller) (p : List ℕ) (l : ℕ)
    → ((poll_of c p).report ≡ refusal 20 l)
    ↔ (HoldsCertificate c × (FirstLink (stored c) p l × BadLink (readings_of p l) (cap_of (stored c) l)))

-- 21: link l is the first whose readings are not good, and both its detectors report faults
abbrev pub PollSilent : Type 0
PollSilent =
    (c : Controller) (p : List ℕ) (l : ℕ)
    → ((poll_of c p).report ≡ refusal 21 l) ↔ (HoldsCertificate c × (FirstLink (stored c) p l × SilentLink (readings_of p l)))

-- 19: all readings are good, and there is no entry for their cell in the current mode
abbrev pub PollUnlisted : Type 0
PollUnlisted =
    (c : Controller) (p : List ℕ)
    → ((poll_of c p).report ≡ refusal 19 0)
    ↔ (HoldsCertificate c × (GoodPoll (stored c) p × ((e : ℕ) → ListsPolled (stored c) c.mode p e → ⊥)))

-- success: all readings are good, and some entry lists their cell for the current mode
abbrev pub PollSucceeds : Type 0
PollSucceeds =
    (c : Controller) (p : List ℕ)
    → ((poll_of c p).report ≡ fine)
    ↔ (HoldsCertificate c × (GoodPoll (stored c) p × ((e : ℕ) × ListsPolled (stored c) c.mode p e)))

-- a poll shows that entry's signal and the signal's green byte, and passes to its next mode; the rest of the state is as it was
abbrev pub PollShows : Type 0
PollShows =
    (c : Controller) (p : List ℕ) (e : ℕ) → HoldsCertificate c → GoodPoll (stored c) p → ListsPolled (stored c) c.mode p e
    → poll_of c p ≡ showing c e

-- what a successful poll shows exists
abbrev pub PollExists : Type 0
PollExists = (c : Controller) (p : List ℕ) → (poll_of c p).report.number ≡ 0 → ShowsExisting (stored c) (poll_of c p)

-- a refused poll shows signal and green byte 0, and leaves the whole state as it was
abbrev pub PollRefused : Type 0
PollRefused = (c : Controller) (p : List ℕ) → ((poll_of c p).report.number ≡ 0 → ⊥) → poll_of c p ≡ refused c (poll_of c p).report

-- the number is one of 0, 16, 18, 19, 20, 21; A is a link with 20 and 21 and 0 with the others; B and count are 0
abbrev pub PollNumbers : Type 0
PollNumbers =
    (c : Controller) (p : List ℕ)
    → ((poll_of c p).report ≡ refusal 18 0)
    ⊎ ((number : ℕ) × ((a : ℕ) × (PollAnswer (stored c) number a × ((poll_of c p).report ≡ refusal number a))))

-- polls that differ in bytes that are not read get the same answer
abbrev pub PollUnread : Type 0
PollUnread = (c : Controller) (p q : List ℕ) → SameRead p q → poll_of c p ≡ poll_of c q

-- A poll and a query. Where a poll passes 18, 16, 20 and 21 it is answered as a query for that cell in the current mode.
pub record SameAsQueries (c : Controller) (p : List ℕ) : Type 0 where
  -- by every query for that cell
  pub every : (queues : List ℕ) (scale : ℕ) → Proper (stored c) queues scale
      → cell_asked (stored c) queues scale ≡ cell_polled (stored c) (readings_of p) → query_of c queues scale ≡ poll_of c p
  -- and there is such a query
  pub some : (queues : List ℕ)
      × ((scale : ℕ) × (Proper (stored c) queues scale × (cell_asked (stored c) queues scale ≡ cell_polled (stored c) (readings_of p))))

abbrev pub PollIsQuery : Type 0
PollIsQuery = (c : Controller) (p : List ℕ) → HoldsCertificate c → GoodPoll (stored c) p → SameAsQueries c p

-- Calls that follow one another.

pub data Call : Type 0 where
  query : Query → Call
  poll : List ℕ → Call

-- what a call answers
unfoldable pub call_of : Controller → Call → Shown
call_of c (query q) = query_of c q.queues q.scale
call_of c (poll p) = poll_of c p

-- the state after a list of queries and polls
unfoldable pub after_calls : Controller → List Call → Controller
after_calls c [] = c
after_calls c (k ∷ ks) = after_calls (call_of c k).state ks

-- queries and polls change nothing but the mode
abbrev pub CallsKeep : Type 0
CallsKeep = (c : Controller) (ks : List Call) → after_calls c ks ≡ in_mode c (after_calls c ks).mode

-- round trip: an accepted load, any queries and polls since, a write that succeeds
abbrev pub CallsRoundTrip : Type 0
CallsRoundTrip =
    (c d : Controller) (s : List ℕ) (ks : List Call) (buffer : List ℕ) (start : ℕ) → (verdict_of s).number ≡ 0
    → (write_report (after_calls (load_of c s).state ks) buffer start).number ≡ 0
    → WritesBack s (after_calls (load_of c s).state ks) d buffer start

-- such a write succeeds wherever there is room for s
abbrev pub CallsRoundTripWrites : Type 0
CallsRoundTripWrites =
    (c : Controller) (s : List ℕ) (ks : List Call) (buffer : List ℕ) (start : ℕ) → (verdict_of s).number ≡ 0
    → start + length s ≤ length buffer → (write_report (after_calls (load_of c s).state ks) buffer start).number ≡ 0

-- Certificates that differ only in ranks (document 02, 7/14).

-- two answers are the same to the cabinet: number, places and count, signal, green byte, and the mode afterwards. That is all of an answer but the
-- stored bytes, which have the ranks
pub record SameToCabinet (one other : Shown) : Type 0 where
  pub report : one.report ≡ other.report
  pub signal : one.signal ≡ other.signal
  pub green : one.green ≡ other.green
  pub mode : one.state.mode ≡ other.state.mode

-- two states are alike to the cabinet: the same mode, and the same answer to every query and every poll
pub record AlikeToCabinet (c d : Controller) : Type 0 where
  pub mode : c.mode ≡ d.mode
  pub query : (queues : List ℕ) (scale : ℕ) → SameToCabinet (query_of c queues scale) (query_of d queues scale)
  pub poll : (p : List ℕ) → SameToCabinet (poll_of c p) (poll_of d p)

-- two accepted certificates that differ only in ranks, loaded into any two states: the states are alike to the cabinet after the loads, and after
-- every list of queries and polls since
abbrev pub RanksUnseen : Type 0
RanksUnseen =
    (c d : Controller) (s t : List ℕ) (ks : List Call) → (verdict_of s).number ≡ 0 → (verdict_of t).number ≡ 0 → DifferInRanks s t
    → AlikeToCabinet (after_calls (load_of c s).state ks) (after_calls (load_of d t).state ks)

-- Polls beside a run: both look up the same entry, so a poll shows the signal that the run's next step goes by.

-- a poll of the queues of r: its readings are good, and the larger ones are those of the run over its scale, by cross products
pub record ReadsQueues (s : List ℕ) (r : RunState) (p : List ℕ) : Type 0 where
  pub good : GoodPoll s p
  pub same : ReadOver s (readings_of p) r.scale r.queue

-- where an entry is in force, a state that stands there and is polled with the queues shows the next step
abbrev pub PollFollowsRun : Type 0
PollFollowsRun =
    (s : List ℕ) (r : RunState) (e : ℕ) (c : Controller) (p : List ℕ) → 1 ≤ r.scale → InForce s r e → StandsAt s r c → ReadsQueues s r p
    → ShowsStep s r (poll_of c p)

-- at every moment of an accepted run
abbrev pub PollAtMoment : Type 0
PollAtMoment =
    (s : List ℕ) (mode : ℕ) (queues : List Fraction) (steps : List Step) → AcceptedRun s mode queues steps
    → (k : ℕ) → k ≤ length steps → (c : Controller) (p : List ℕ)
    → StandsAt s (moment_of s (start s queues mode) steps k) c → ReadsQueues s (moment_of s (start s queues mode) steps k) p
    → ShowsStep s (moment_of s (start s queues mode) steps k) (poll_of c p)

-- a query or a poll for the queues of r
abbrev pub CallAsks : List ℕ → RunState → Call → Type 0
CallAsks s r (query q) = AsksFor s r q
CallAsks s r (poll p) = ReadsQueues s r p

-- a call that stands past the end of a list
abbrev pub no_call : Call
no_call = poll []

-- a state that stands at moment 0 and is asked or polled at one moment after another stands at the moment after the last
abbrev pub CallsFollowRun : Type 0
CallsFollowRun =
    (s : List ℕ) (mode : ℕ) (queues : List Fraction) (steps : List Step) → AcceptedRun s mode queues steps
    → (c : Controller) (ks : List Call) → StandsAt s (start s queues mode) c → length ks ≤ length steps
    → ((k : ℕ) → k < length ks → CallAsks s (moment_of s (start s queues mode) steps k) (get_or ks k no_call))
    → StandsAt s (moment_of s (start s queues mode) steps (length ks)) (after_calls c ks)
