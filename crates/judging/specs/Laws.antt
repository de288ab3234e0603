-- What is proved of the verdict (proofs/ of this crate). Statements only.
use Rattle.std.specs.Prelude.{ℕ, ◌+◌, ◌*◌, ◌≤◌, ◌<◌, List, ◌↔◌, ◌⊎◌, ◌≡◌, length, take, true, false}
use Rattle.certificate.specs.declared.Report.{Report}
use Rattle.certificate.specs.Checks.{report_with}
use Rattle.certificate.specs.Layout.{max_pull_sum, max_length, links_of, turns_of, signals_of, cells_of, boxes_of, low_of, high_of, entries_of, cell_of}
use Rattle.certificate.specs.Reading.{reading_of}
use Rattle.certificate.specs.Laws.{ReadingNumber, Refusals}
use Rattle.network.specs.Network.{network_of, is_green, entry_limit}
use Rattle.network.specs.Flow.{gross, next}
use Rattle.network.specs.Conditions.{pull_sum, room_ok}
use Rattle.network.specs.Laws.{Exceeds, Screened}
use Rattle.grid.specs.Cells.{lower_of, upper_of}
use Rattle.grid.specs.Laws.{InClosedCell, InBox}
use Rattle.judging.specs.Verdict.{verdict_of}
use Rattle.judging.specs.Overflow.{entry_overflows, overflows_before, overflows_of}
use Rattle.judging.specs.Conditions.{SafeCell, RankFits, Follows, ListedNext, LowerNext, SuccessorHolds, EntryHolds, looked_cells, looked_boxes, looked_entries, PlaceBefore}

-- accepted exactly if the tests before 12 pass and every entry holds
abbrev pub AcceptedIsPlain : Type 0
AcceptedIsPlain =
    (s : List ℕ) → ((verdict_of s).number ≡ 0) ↔ (Screened s × ((e : ℕ) → e < entries_of s → EntryHolds s e))

-- an accepted certificate's result has no places, and its count is the number of successors looked up
abbrev pub AcceptedCount : Type 0
AcceptedCount = (s : List ℕ) → (verdict_of s).number ≡ 0 → verdict_of s ≡ report_with 0 0 0 (looked_entries s (entries_of s))

-- the count is at most entries × boxes × cells
abbrev pub CountFits : Type 0
CountFits = (s : List ℕ) → (verdict_of s).count ≤ entries_of s * boxes_of s * cells_of s

-- the number of a verdict is one of reading's, or 10 to 15
abbrev pub NumberFits : Type 0
NumberFits = (s : List ℕ) → ReadingNumber (verdict_of s).number ⊎ ((10 ≤ (verdict_of s).number) × ((verdict_of s).number ≤ 15))

-- the places of a result: A and B are below the number of what they name; an offset is at most the length; a place that is not named is 0
pub record Places (s : List ℕ) (r : Report) : Type 0 where
  pub accepted : r.number ≡ 0 → (r.a ≡ 0) × (r.b ≡ 0)
  pub reading : ReadingNumber r.number → (r.a ≤ length s) × (r.b ≡ 0)
  pub pull : r.number ≡ 10 → (r.a < signals_of s) × (r.b < links_of s)
  pub room : r.number ≡ 11 → (r.a < turns_of s) × (r.b ≡ 0)
  pub entry : 12 ≤ r.number → r.number ≤ 13 → (r.a < entries_of s) × (r.b ≡ 0)
  pub successor : 14 ≤ r.number → r.number ≤ 15 → (r.a < entries_of s) × (r.b < cells_of s)

abbrev pub PlacesFit : Type 0
PlacesFit = (s : List ℕ) → Places s (verdict_of s)

-- the verdict of a byte string is that of its first (greatest length + 1) bytes
abbrev pub VerdictOfLong : Type 0
VerdictOfLong = (s : List ℕ) → verdict_of s ≡ verdict_of (take (max_length + 1) s)

-- Refused with number and places exactly if that test fails and none before it in the stated order does: one law a stage.

-- 1 to 9, 22, 23 and 24: reading refuses
abbrev pub RefusedReading : Type 0
RefusedReading =
    (s : List ℕ) (r : Report) → (r.number ≡ 0 → ⊥) → ReadingNumber r.number → (verdict_of s ≡ r) ↔ (reading_of s ≡ r)

-- so each of 1 to 9, 22, 23 and 24 exactly if the record that is due has that fault (crate certificate, specs/Laws.antt)
abbrev pub RefusedRecord : Type 0
RefusedRecord = Refusals verdict_of

-- 10: signal g and link l are the first, signals then links ascending, whose pull sum is above 10,000
pub record PullTooHigh (s : List ℕ) (g l : ℕ) : Type 0 where
  pub read : (reading_of s).number ≡ 0
  pub signal : g < signals_of s
  pub link : l < links_of s
  pub high : max_pull_sum < pull_sum (network_of s) (is_green s g) l
  pub before : (h k : ℕ) → h < signals_of s → k < links_of s → PlaceBefore h k g l → pull_sum (network_of s) (is_green s h) k ≤ max_pull_sum

abbrev pub RefusedPull : Type 0
RefusedPull =
    (s : List ℕ) (g l n : ℕ) → (verdict_of s ≡ report_with 10 g l n) ↔ (PullTooHigh s g l × (n ≡ 0))

-- 11: turn t is the first whose flow condition fails, and no pull sum is too high
pub record RoomTooSmall (s : List ℕ) (t : ℕ) : Type 0 where
  pub read : (reading_of s).number ≡ 0
  pub pulls : (h k : ℕ) → h < signals_of s → k < links_of s → pull_sum (network_of s) (is_green s h) k ≤ max_pull_sum
  pub turn : t < turns_of s
  pub small : room_ok s t ≡ false
  pub before : (u : ℕ) → u < t → room_ok s u ≡ true

abbrev pub RefusedRoom : Type 0
RefusedRoom =
    (s : List ℕ) (t b n : ℕ) → (verdict_of s ≡ report_with 11 t b n) ↔ (RoomTooSmall s t × (b ≡ 0) × (n ≡ 0))

-- the tests before 12 pass, and so do all entries before e
pub record Reaches (s : List ℕ) (e : ℕ) : Type 0 where
  pub screened : Screened s
  pub entry : e < entries_of s
  pub before : (f : ℕ) → f < e → EntryHolds s f

-- 12: entry e is the first that fails a test, and its cell is not safe; the count is that of the entries before it
abbrev pub RefusedUnsafe : Type 0
RefusedUnsafe =
    (s : List ℕ) (e b n : ℕ)
    → (verdict_of s ≡ report_with 12 e b n) ↔ (Reaches s e × (SafeCell s e → ⊥) × (b ≡ 0) × (n ≡ looked_entries s e))

-- 13: its cell is safe, and its rank does not fit the goal of its mode
abbrev pub RefusedRank : Type 0
RefusedRank =
    (s : List ℕ) (e b n : ℕ)
    → (verdict_of s ≡ report_with 13 e b n) ↔ (Reaches s e × SafeCell s e × (RankFits s e → ⊥) × (b ≡ 0) × (n ≡ looked_entries s e))

-- entry e is reached and stands, and cell d under box k is its successor, looked up as the n-th; all successors before it hold
pub record ReachesCell (s : List ℕ) (e d n : ℕ) : Type 0 where
  pub reaches : Reaches s e
  pub safe : SafeCell s e
  pub rank : RankFits s e
  pub box : ℕ
  pub box_exists : box < boxes_of s
  pub cell : d < cells_of s
  pub follows : Follows s e box d
  pub earlier : (k c : ℕ) → k < boxes_of s → c < cells_of s → PlaceBefore k c box d → Follows s e k c → SuccessorHolds s e c
  pub count : n ≡ looked_entries s e + looked_boxes s e box + looked_cells s e box d + 1

-- 14: that successor is not listed with the next mode
abbrev pub RefusedUnlisted : Type 0
RefusedUnlisted =
    (s : List ℕ) (e d n : ℕ) → (verdict_of s ≡ report_with 14 e d n) ↔ (ReachesCell s e d n × (ListedNext s e d → ⊥))

-- 15: it is listed, and its rank is not lower
abbrev pub RefusedNotLower : Type 0
RefusedNotLower =
    (s : List ℕ) (e d n : ℕ)
    → (verdict_of s ≡ report_with 15 e d n) ↔ (ReachesCell s e d n × ListedNext s e d × (LowerNext s e d → ⊥))

-- Where arrivals may be turned away.

-- a link and an arrival box for which the link's next queue, not cut at cap, exceeds cap for some exact queues of entry e's closed cell and
-- some exact arrivals of the box
pub record TurnsAway (s : List ℕ) (e : ℕ) : Type 0 where
  pub box : ℕ
  pub link : ℕ
  pub box_exists : box < boxes_of s
  pub link_exists : link < links_of s
  pub exceeds : Exceeds (network_of s) (entry_limit s e) (lower_of s (cell_of s e)) (upper_of s (cell_of s e)) (low_of s box) (high_of s box) link

-- the entries that are counted are exactly those that have one
abbrev pub EntryOverflows : Type 0
EntryOverflows = (s : List ℕ) → Screened s → (e : ℕ) → e < entries_of s → (entry_overflows s e ≡ true) ↔ TurnsAway s e

-- under any other entry no arrival is turned away: the cut at cap changes no next queue
abbrev pub NotCut : Type 0
NotCut =
    (s : List ℕ) → Screened s → (e : ℕ) → e < entries_of s → entry_overflows s e ≡ false
    → (b D : ℕ) (x a : ℕ → ℕ) → b < boxes_of s → 1 ≤ D → InClosedCell s (cell_of s e) D x → InBox s b D a → (l : ℕ) → l < links_of s
    → next (network_of s) (entry_limit s e) D x a l ≡ gross (network_of s) (entry_limit s e) D x a l

-- an acceptance has the number of such entries, a refusal 0
abbrev pub AcceptedOverflows : Type 0
AcceptedOverflows = (s : List ℕ) → (verdict_of s).number ≡ 0 → overflows_of s ≡ overflows_before s (entries_of s)

abbrev pub RefusedOverflows : Type 0
RefusedOverflows = (s : List ℕ) → ((verdict_of s).number ≡ 0 → ⊥) → overflows_of s ≡ 0

-- the number is a count: none before the first entry, one more after an entry that may turn arrivals away, the same after any other
pub record CountsOn (s : List ℕ) : Type 0 where
  pub none : overflows_before s 0 ≡ 0
  pub more : (e : ℕ) → entry_overflows s e ≡ true → overflows_before s (e + 1) ≡ overflows_before s e + 1
  pub same : (e : ℕ) → entry_overflows s e ≡ false → overflows_before s (e + 1) ≡ overflows_before s e

abbrev pub OverflowsCount : Type 0
OverflowsCount = (s : List ℕ) → CountsOn s

-- an entry counts once, so the number is at most that of the entries
abbrev pub OverflowsFit : Type 0
OverflowsFit = (s : List ℕ) → overflows_of s ≤ entries_of s

-- a certificate that is accepted with 0 has no such entry
abbrev pub NoneOverflows : Type 0
NoneOverflows =
    (s : List ℕ) → (verdict_of s).number ≡ 0 → overflows_of s ≡ 0 → (e : ℕ) → e < entries_of s → entry_overflows s e ≡ false

-- the number of a byte string is that of its first (greatest length + 1) bytes
abbrev pub OverflowsOfLong : Type 0
OverflowsOfLong = (s : List ℕ) → overflows_of s ≡ overflows_of (take (max_length + 1) s)
