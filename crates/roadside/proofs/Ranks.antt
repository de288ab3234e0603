-- Certificates that differ only in ranks are answered alike on lent states: a lent state holds what a state by value would be. Assumes nothing.
use Prim.Native.Nat.{ℕ, ◌%◌}
use mathlib.Core.List.{List, [], ◌∷◌}
use mathlib.Core.Logic.{⊎_elim}
use mathlib.Core.Path.{◌≡◌, refl, sym, ap, ◌∙◌}
use native.Mathlib.Omega.{arith}
use lib.ListN.{length, length-append, length-replicate}
use Rattle.certificate.specs.Octets.{byte_at}
use Rattle.certificate.specs.Entries.{DifferInRanks}
use Rattle.certificate.specs.Facts.{Readable}
use Rattle.certificate.proofs.Tests.{passes, need_both}
use Rattle.judging.specs.Verdict.{verdict_of}
use Rattle.judging.proofs.Verdicts.{accepted_is_plain}
use Rattle.controller.specs.declared.Controller.{Controller}
use Rattle.controller.specs.declared.Shown.{Shown}
use Rattle.controller.specs.State.{holding}
use Rattle.controller.proofs.Holding.{accepted_holds}
use Rattle.controller.proofs.Lookups.{query_refused}
use Rattle.packed_state.specs.State.{state_mode_at, state_size, held_in, state_of, bytes_after}
use Rattle.packed_state.specs.Laws.{WholeState}
use Rattle.packed_state.proofs.Packing.{right_length}
use Rattle.packed_state.proofs.Passing.{bytes_after_lem}
use Rattle.held_state.specs.Held.{load_report, shown_for, display_of}
use Rattle.polls.specs.Laws.{Call, call_of}
use Rattle.polls.specs.Laws.Call.{query as asked, poll as polled}
use Rattle.polls.proofs.Answers.{poll_refused}
use Rattle.polls.proofs.Following.{call_keeps}
use Rattle.polls.proofs.Ranks.{Twin, call_alike, loaded_alike}
use Rattle.answer_words.specs.Words.{display_word, queues_in}
use Rattle.roadside.specs.Calls.{LoadCall, ShownCall, polled_for}
use Rattle.roadside.specs.Laws.{CabinetCall, Made, AllMade, CallsAnswered, RanksUnseenLent}
use Rattle.roadside.specs.Laws.CabinetCall.{query, poll}
use Rattle.roadside.proofs.Words.{load_word}

-- what a lent state shows
shown_to : List ℕ → CabinetCall → Shown
shown_to state (query queues scale) = shown_for state (queues_in queues) scale
shown_to state (poll p) = polled_for state p

made_is : (k : CabinetCall) (state state' : List ℕ) (r : ℕ) → Made k state state' r ≡ ShownCall (shown_to state k) state state' r
unfolding shown_to
made_is (query queues scale) state state' r = refl
made_is (poll p) state state' r = refl

pub calls_answered : CallsAnswered
calls_answered [] state = (state, ([], refl))
calls_answered (k ∷ ks) state =
    let shown = shown_to state k in
    let next = bytes_after shown.report.number shown.state state in
    let more = calls_answered ks next in
    (more.0, (display_word (display_of shown) ∷ more.1.0, (next, (rw (made_is k state next _) (record { answer = refl; bytes = refl }), more.1.1))))

-- the call of a state by value, and what it shows
by_value : CabinetCall → Call
by_value (query queues scale) = asked (record { queues = queues_in queues; scale = scale })
by_value (poll p) = polled p

abbrev shown_by : Controller → CabinetCall → Shown
shown_by c k = call_of c (by_value k)

shown_is : (state : List ℕ) (k : CabinetCall) → shown_to state k ≡ shown_by (held_in state) k
unfolding shown_to call_of by_value
shown_is state (query queues scale) = refl
shown_is state (poll p) = refl

-- a refused call leaves the state
call_stays : (c : Controller) (k : CabinetCall) → ((shown_by c k).report.number ≡ 0 → ⊥) → (shown_by c k).state ≡ c
unfolding call_of by_value
call_stays c (query queues scale) bad = ap (λ (r : Shown). r.state) (query_refused c (queues_in queues) scale bad)
call_stays c (poll p) bad = ap (λ (r : Shown). r.state) (poll_refused c p bad)

-- lent bytes that hold state c
record Lent (state : List ℕ) (c : Controller) : Type 0 where
  size : length state ≡ state_size
  held : held_in state ≡ c
  whole : WholeState c

-- what stands where the next state is put, whatever stood there
put : (next : Controller) (state : List ℕ) (number : ℕ) → number ≡ 0 → WholeState next → Lent (bytes_after number next state) next
put next state number z w = rw z (let a = bytes_after_lem next state in record { size = a.size w; held = a.holds w; whole = w })

-- a call on them answers as by value, and leaves bytes that hold the next state
module _ {state state' : List ℕ} {c : Controller} {r : ℕ} (k : CabinetCall) (L : Lent state c) (S : ShownCall (shown_to state k) state state' r) where
  same : shown_to state k ≡ shown_by c k
  same = shown_is state k ∙ ap (λ (d : Controller). shown_by d k) L.held

  word : r ≡ display_word (display_of (shown_by c k))
  word = S.answer ∙ ap (λ (x : Shown). display_word (display_of x)) same

  bytes : state' ≡ bytes_after (shown_by c k).report.number (shown_by c k).state state
  bytes = S.bytes ∙ ap (λ (x : Shown). bytes_after x.report.number x.state state) same

  lent_on : Lent state' (shown_by c k).state
  lent_on = rw bytes (⊎_elim succeeded turned (passes (shown_by c k).report))
    where
      whole : WholeState (shown_by c k).state
      whole = rw (call_keeps c (by_value k)) (record { size = L.whole.size; small = L.whole.small })

      succeeded : (shown_by c k).report.number ≡ 0 → Lent (bytes_after (shown_by c k).report.number (shown_by c k).state state) (shown_by c k).state
      succeeded z = put (shown_by c k).state state _ z whole

      turned : ((shown_by c k).report.number ≡ 0 → ⊥) → Lent (bytes_after (shown_by c k).report.number (shown_by c k).state state) (shown_by c k).state
      turned bad = rw ((bytes_after_lem (shown_by c k).state state).kept _ bad, call_stays c k bad) L

-- a load whose answer has number 0 was accepted, and leaves bytes that hold the loaded state
load_lent : {s state state' : List ℕ} {v : ℕ} → LoadCall s state state' v → v % 256 ≡ 0 → ((verdict_of s).number ≡ 0) × Lent state' (holding s)
load_lent {s} {state} {state'} {v} C number =
    let z : (load_report state s).number ≡ 0 = sym (load_word state s).number ∙ rw (← C.answer) number in
    let ok : (verdict_of s).number ≡ 0 = (need_both _ _ _ (λ e. omega arith) z).1 in
    let fits = (accepted_holds s ok).0.fits in
    let whole : WholeState (holding s) = record { size = rw (length-append, length-replicate) (omega arith); small = omega arith } in
    (ok, rw C.bytes (put (holding s) state _ z whole))

-- the byte of the mode
mode_lent : (state : List ℕ) (c : Controller) → Lent state c → byte_at state state_mode_at ≡ c.mode
unfolding state_of
mode_lent state c L = let read : (held_in state).mode ≡ byte_at state state_mode_at = rw (right_length state L.size) in sym read ∙ ap (λ (d : Controller). d.mode) L.held

-- two lent states that hold such certificates in one mode, through a list of calls
module _ {s t : List ℕ} (R : Readable s) (D : DifferInRanks s t) where
  alike_on : (c d : Controller) (state other last last' : List ℕ) (ks : List CabinetCall) (rs qs : List ℕ) → Twin s t c d → Lent state c → Lent other d
      → AllMade ks state last rs → AllMade ks other last' qs → (rs ≡ qs) × (byte_at last state_mode_at ≡ byte_at last' state_mode_at)
  alike_on c d state other last last' [] [] [] T L N e f = (refl, rw (e, f) (mode_lent state c L ∙ T.mode ∙ sym (mode_lent other d N)))
  alike_on c d state other last last' [] [] (q ∷ qs) T L N e f = absurd f
  alike_on c d state other last last' [] (r ∷ rs) qs T L N e f = absurd e
  alike_on c d state other last last' (k ∷ ks) [] qs T L N e f = absurd e
  alike_on c d state other last last' (k ∷ ks) (r ∷ rs) [] T L N e f = absurd f
  alike_on c d state other last last' (k ∷ ks) (r ∷ rs) (q ∷ qs) T L N (a, (M, more)) (b, (O, rest)) =
      let S : ShownCall (shown_to state k) state a r = rw (made_is k state a r) at M in
      let U : ShownCall (shown_to other k) other b q = rw (made_is k other b q) at O in
      let next = call_alike R D c d T (by_value k) in
      let report = next.0.report in
      let signal = next.0.signal in
      let green = next.0.green in
      let first : r ≡ q = word k L S ∙ (cc) ∙ sym (word k N U) in
      let others = alike_on (shown_by c k).state (shown_by d k).state a b last last' ks rs qs next.1 (lent_on k L S) (lent_on k N U) more rest in
      (cc others.0, others.1)

pub ranks_unseen_lent : RanksUnseenLent
ranks_unseen_lent s t state state' other other' v w C E z z' D ks last last' rs qs A B =
    let one = load_lent C z in
    let two = load_lent E z' in
    let R = ((accepted_is_plain s).0 one.0).0.readable in
    alike_on R D _ _ _ _ last last' ks rs qs (loaded_alike s t one.0 two.0) one.1 two.1 A B
