-- What is proved of the street cabinet's calls (proofs/ of this crate). Statements only.
use Rattle.std.specs.Prelude.{ℕ, ◌*◌, ◌%◌, List, [], ◌∷◌, ◌≡◌, length}
use Rattle.certificate.specs.Checks.{refusal}
use Rattle.certificate.specs.Octets.{byte_at}
use Rattle.certificate.specs.Layout.{links_of}
use Rattle.certificate.specs.Entries.{DifferInRanks}
use Rattle.controller.specs.declared.Controller.{Controller}
use Rattle.controller.specs.State.{fresh_state, stored}
use Rattle.controller.specs.Query.{refused, query_of}
use Rattle.controller.specs.Laws.{HoldsCertificate}
use Rattle.packed_state.specs.State.{state_mode_at, state_size}
use Rattle.held_state.specs.Held.{load_report, load_overflows, shown_for, display_of}
use Rattle.answer_words.specs.Words.{display_word, verdict_word, DisplayParts, VerdictParts, queue_size, queues_in}
use Rattle.roadside.specs.Calls.{LoadCall, QueryCall, polled_for, PollCall}

-- the parts of an answer's number are those of the report, the signal and the green byte, or of the verdict, whatever state and bytes are given
abbrev pub PollWord : Type 0
PollWord = (state p : List ℕ) → DisplayParts (display_word (display_of (polled_for state p))) (display_of (polled_for state p))

abbrev pub QueryWord : Type 0
QueryWord =
    (state queues : List ℕ) (scale : ℕ)
    → DisplayParts (display_word (display_of (shown_for state queues scale))) (display_of (shown_for state queues scale))

abbrev pub LoadWord : Type 0
LoadWord =
    (state s : List ℕ)
    → VerdictParts (verdict_word (load_report state s) (load_overflows state s)) (load_report state s) (load_overflows state s)

-- a state's slice of any other length gets 18 from a poll too (held_state `OtherLengths` has the other calls)
abbrev pub PollOtherLength : Type 0
PollOtherLength = (state p : List ℕ) → (length state ≡ state_size → ⊥) → polled_for state p ≡ refused fresh_state (refusal 18 0)

-- a number of bytes that is not four a link gets 16, where a certificate is held
abbrev pub QueueBytes : Type 0
QueueBytes =
    (c : Controller) (b : List ℕ) (scale : ℕ) → HoldsCertificate c → (length b ≡ queue_size * links_of (stored c) → ⊥)
    → query_of c (queues_in b) scale ≡ refused c (refusal 16 0)

-- Certificates that differ only in ranks (document 02, 7/14), in what the cabinet's program sees: the answers to its calls, and the lent state's bytes.

-- a query whose queues are given as bytes, or a poll
pub data CabinetCall : Type 0 where
  query : List ℕ → ℕ → CabinetCall
  poll : List ℕ → CabinetCall

-- the call by its contract: the state's bytes before and after it, and its answer
abbrev pub Made : CabinetCall → List ℕ → List ℕ → ℕ → Type 0
Made (query queues scale) state state' r = QueryCall queues scale state state' r
Made (poll p) state state' r = PollCall p state state' r

-- calls one after another, each by its contract: the state's bytes before the first and after the last, and the answers
abbrev pub AllMade : List CabinetCall → List ℕ → List ℕ → List ℕ → Type 0
AllMade [] state state' [] = state' ≡ state
AllMade [] state state' (r ∷ rs) = ⊥
AllMade (k ∷ ks) state state' [] = ⊥
AllMade (k ∷ ks) state state' (r ∷ rs) = (between : List ℕ) × (Made k state between r × AllMade ks between state' rs)

-- every list of calls on every lent state has answers
abbrev pub CallsAnswered : Type 0
CallsAnswered = (ks : List CabinetCall) (state : List ℕ) → (state' : List ℕ) × ((rs : List ℕ) × AllMade ks state state' rs)

-- two loads whose answers have number 0, of certificates that differ only in ranks, into any two lent states; then the same queries and polls on both: the
-- answers are the same, number for number, and so is the byte of the mode after the last
abbrev pub RanksUnseenLent : Type 0
RanksUnseenLent =
    (s t state state' other other' : List ℕ) (v w : ℕ) → LoadCall s state state' v → LoadCall t other other' w → v % 256 ≡ 0 → w % 256 ≡ 0
    → DifferInRanks s t → (ks : List CabinetCall) (last last' rs qs : List ℕ) → AllMade ks state' last rs → AllMade ks other' last' qs
    → (rs ≡ qs) × (byte_at last state_mode_at ≡ byte_at last' state_mode_at)
