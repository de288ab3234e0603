-- What is proved of reading (proofs/ of this crate). Statements only.
use Rattle.std.specs.Prelude.{ℕ, ◌+◌, ◌*◌, ◌^◌, ◌≤◌, ◌<◌, true, false, List, [], ◌∷◌, ◌++◌, ◌≡◌, ◌↔◌, ◌⊎◌, length, take}
use Rattle.certificate.specs.Octets.{byte_at, bit_of}
use Rattle.certificate.specs.Loops.{pick, sum_to}
use Rattle.certificate.specs.declared.Report.{Report}
use Rattle.certificate.specs.declared.CabinetEntry.{CabinetEntry}
use Rattle.certificate.specs.Layout.{max_links, max_turns, max_signals, max_modes, max_boxes, max_entries, max_cap, max_share, max_pull, max_pull_sum, max_arrival, max_intervals, max_goal_number, max_scale, max_length, header_size, plain_link_size, plain_mode_size, end_size, signals_of, entries_of, remembers, takes_turns, link_at, flow_of, goal_of, start_flow_of, signal_at, mode_size, goal_number_of, goal_for, greatest_goal, next_goal, modes_of, grid_start, cells_of, max_cells, entries_start, entry_at, end_at}
use Rattle.certificate.specs.Records.{passes_on, turns_on}
use Rattle.certificate.specs.Reading.{reading_of}
use Rattle.certificate.specs.Checks.{report_with, fine}
use Rattle.certificate.specs.Facts.{Mark, Readable}
use Rattle.certificate.specs.Fields.{Field, byte, u16, Stand, certificate_fields}
use Rattle.certificate.specs.Entries.{cabinet_entry_of, bench_entry_of, DifferInRanks}
use Rattle.certificate.specs.Due.{Kind, HD, LK, TN, SG, MD, GR, AR, EN, ZZ, field_number, record_at, Due, TooShort, WrongMark, BrokenLine, MissingName, WrongOrder, OtherSignal, OtherGoal}

-- the limits of the format, in the numbers of documents 01 and 02; the greatest length is what they come to
pub record LimitsAre : Type 0 where
  pub links : max_links ≡ 8
  pub turns : max_turns ≡ 32
  pub signals : max_signals ≡ 16
  pub modes : max_modes ≡ 8
  pub boxes : max_boxes ≡ 8
  pub entries : max_entries ≡ 4096
  pub cap : max_cap ≡ 10000
  pub share : max_share ≡ 100
  pub pull : max_pull ≡ 10000
  pub pulls : max_pull_sum ≡ 10000
  pub arrival : max_arrival ≡ 10000
  pub intervals : max_intervals ≡ 15
  pub cells : max_cells ≡ 4096
  pub goal_number : max_goal_number ≡ 7
  pub scale : max_scale ≡ 100000
  pub length : max_length ≡ 37939

-- a number below 2 to the n is the sum of the values of its bits, 2 to the i for bit i
abbrev pub BitsAre : Type 0
BitsAre = (n x : ℕ) → x < 2 ^ n → x ≡ sum_to n (λ i. pick (bit_of x i) (2 ^ i) 0)

-- reading finds nothing to refuse exactly if every line of the layout holds
abbrev pub ReadingIsPlain : Type 0
ReadingIsPlain = (s : List ℕ) → ((reading_of s).number ≡ 0) ↔ Readable s

-- success is a result with no places and no count
abbrev pub ReadingIsFine : Type 0
ReadingIsFine = (s : List ℕ) → (reading_of s).number ≡ 0 → reading_of s ≡ fine

-- a readable certificate is the fields of the layout, one after another, and nothing else
abbrev pub FieldsStand : Type 0
FieldsStand = (s : List ℕ) → Readable s → Stand s 0 (certificate_fields s) (length s)

-- a readable certificate has at least one cell and at most 4,096
abbrev pub CellsInRange : Type 0
CellsInRange = (s : List ℕ) → Readable s → (1 ≤ cells_of s) × (cells_of s ≤ max_cells)

-- a readable certificate is no longer than the greatest length
abbrev pub ReadableFits : Type 0
ReadableFits = (s : List ℕ) → Readable s → length s ≤ max_length

-- a byte string reads as its first (greatest length + 1) bytes do
abbrev pub LongInput : Type 0
LongInput = (s : List ℕ) → reading_of s ≡ reading_of (take (max_length + 1) s)

-- the kind of a readable certificate is that of its mark: HD, H2 or H3
abbrev pub KindIsMark : Type 0
KindIsMark =
    (s : List ℕ) → Readable s
    → (Mark s 0 72 68 × (remembers s ≡ false) × (takes_turns s ≡ false))
    ⊎ (Mark s 0 72 50 × (remembers s ≡ true) × (takes_turns s ≡ false))
    ⊎ (Mark s 0 72 51 × (remembers s ≡ true) × (takes_turns s ≡ true))

-- whatever has goals in turn is otherwise as H2
abbrev pub TurnsRemember : Type 0
TurnsRemember = (s : List ℕ) → takes_turns s ≡ true → remembers s ≡ true

-- in HD all stands as in document 01: no LK has a start flow of its own, there is no MD, and 23 passes
pub record PlainLaid (s : List ℕ) : Type 0 where
  pub link : (l : ℕ) → link_at s l ≡ header_size + plain_link_size * l
  pub start_flow : (l : ℕ) → start_flow_of s l ≡ flow_of s l
  pub grid : grid_start s ≡ signal_at s (signals_of s)
  pub passes_on_fact : (e : ℕ) → passes_on s e ≡ true

abbrev pub PlainLayout : Type 0
PlainLayout = (s : List ℕ) → remembers s ≡ false → PlainLaid s

-- in HD and H2 there is one goal: an MD has the signal alone, every mode has number 0 and the goals of LK, and 24 passes
pub record OneGoal (s : List ℕ) : Type 0 where
  pub size : mode_size s ≡ plain_mode_size
  pub number : (m : ℕ) → goal_number_of s m ≡ 0
  pub goal : (m l : ℕ) → goal_for s m l ≡ goal_of s l
  pub turns_on_fact : (e : ℕ) → turns_on s e ≡ true

abbrev pub OneGoalLayout : Type 0
OneGoalLayout = (s : List ℕ) → takes_turns s ≡ false → OneGoal s

-- goals in turn: no mode has a number above the greatest, the next number is one on, and 0 comes after the greatest
pub record InOrder (s : List ℕ) : Type 0 where
  pub most : (m : ℕ) → m < modes_of s → goal_number_of s m ≤ greatest_goal s
  pub on : (n : ℕ) → n < greatest_goal s → next_goal s n ≡ n + 1
  pub wraps : next_goal s (greatest_goal s) ≡ 0

abbrev pub GoalsInOrder : Type 0
GoalsInOrder = (s : List ℕ) → InOrder s

-- the numbers of reading: 0 for success, and refusals 1 to 9, 22, 23 and 24
pub data ReadingNumber (n : ℕ) : Type 0 where
  up_to_nine : n ≤ 9 → ReadingNumber n
  of_order : n ≡ 22 → ReadingNumber n
  of_memory : n ≡ 23 → ReadingNumber n
  of_goal : n ≡ 24 → ReadingNumber n

-- reading answers with no other number
abbrev pub ReadingNumbers : Type 0
ReadingNumbers = (s : List ℕ) → ReadingNumber (reading_of s).number

-- a place of reading lies within the byte string or at its end: place A is at most its length, and there is no place B
abbrev pub PlaceFits : Type 0
PlaceFits = (s : List ℕ) → ((reading_of s).a ≤ length s) × ((reading_of s).b ≡ 0)

-- Refused with number and place exactly if that test fails and none before it in the stated order does. What answers is reading here, and the
-- verdict in crate judging.

-- the record that is due has this fault, and starts at a
abbrev pub DueAt : (List ℕ → Kind → ℕ → Type 0) → List ℕ → ℕ → Type 0
DueAt Fault s a = (k : Kind) × (i : ℕ) × Due s k i × Fault s k i × (a ≡ record_at s k i)

-- 1: fewer bytes than the due record or its mark needs
abbrev pub RefusedShort : (List ℕ → Report) → Type 0
RefusedShort answer = (s : List ℕ) (a b n : ℕ) → (answer s ≡ report_with 1 a b n) ↔ (DueAt TooShort s a × (b ≡ 0) × (n ≡ 0))

-- all records are right, and after ZZ stands a byte, at a
abbrev pub GoesOnAt : List ℕ → ℕ → Type 0
GoesOnAt s a = Due s ZZ 0 × Mark s (end_at s) 90 90 × (end_at s + end_size < length s) × (a ≡ end_at s + end_size)

-- 2: wrong mark, or a byte after ZZ
abbrev pub RefusedMark : (List ℕ → Report) → Type 0
RefusedMark answer = (s : List ℕ) (a b n : ℕ) → (answer s ≡ report_with 2 a b n) ↔ ((DueAt WrongMark s a ⊎ GoesOnAt s a) × (b ≡ 0) × (n ≡ 0))

-- a record of kind k that is due breaks its line, and starts at a
abbrev pub BrokenAt : Kind → List ℕ → ℕ → Type 0
BrokenAt k s a = (i : ℕ) × Due s k i × BrokenLine s k i × (a ≡ record_at s k i)

-- 3, 4, 5, 7, 8: a field of a record of kind k breaks its line
abbrev pub RefusedField : Kind → (List ℕ → Report) → Type 0
RefusedField k answer = (s : List ℕ) (a b n : ℕ) → (answer s ≡ report_with (field_number k) a b n) ↔ (BrokenAt k s a × (b ≡ 0) × (n ≡ 0))

-- 6: a field of an SG or of an MD does
abbrev pub RefusedSignal : (List ℕ → Report) → Type 0
RefusedSignal answer = (s : List ℕ) (a b n : ℕ) → (answer s ≡ report_with 6 a b n) ↔ ((BrokenAt SG s a ⊎ BrokenAt MD s a) × (b ≡ 0) × (n ≡ 0))

-- the entry that is due has this fault, and starts at a
abbrev pub EntryDueAt : (List ℕ → ℕ → Type 0) → List ℕ → ℕ → Type 0
EntryDueAt Fault s a = (e : ℕ) × Due s EN e × Fault s e × (a ≡ entry_at s e)

-- 9: it names a missing cell, mode, signal or next mode
abbrev pub RefusedName : (List ℕ → Report) → Type 0
RefusedName answer = (s : List ℕ) (a b n : ℕ) → (answer s ≡ report_with 9 a b n) ↔ (EntryDueAt MissingName s a × (b ≡ 0) × (n ≡ 0))

-- 22: its names exist, and its pair (cell, mode) is not above that of the entry before it
abbrev pub RefusedOrder : (List ℕ → Report) → Type 0
RefusedOrder answer = (s : List ℕ) (a b n : ℕ) → (answer s ≡ report_with 22 a b n) ↔ (EntryDueAt WrongOrder s a × (b ≡ 0) × (n ≡ 0))

-- 23: its names exist, its pair is above, and its next mode remembers another signal
abbrev pub RefusedMemory : (List ℕ → Report) → Type 0
RefusedMemory answer = (s : List ℕ) (a b n : ℕ) → (answer s ≡ report_with 23 a b n) ↔ (EntryDueAt OtherSignal s a × (b ≡ 0) × (n ≡ 0))

-- 24: its names exist, its pair is above, its next mode remembers its signal, and has another goal number than is due
abbrev pub RefusedGoal : (List ℕ → Report) → Type 0
RefusedGoal answer = (s : List ℕ) (a b n : ℕ) → (answer s ≡ report_with 24 a b n) ↔ (EntryDueAt OtherGoal s a × (b ≡ 0) × (n ≡ 0))

-- all of them
pub record Refusals (answer : List ℕ → Report) : Type 0 where
  pub short : RefusedShort answer
  pub mark : RefusedMark answer
  pub header : RefusedField HD answer
  pub link : RefusedField LK answer
  pub turn : RefusedField TN answer
  pub signal : RefusedSignal answer
  pub grid : RefusedField GR answer
  pub arrival : RefusedField AR answer
  pub name : RefusedName answer
  pub order : RefusedOrder answer
  pub memory : RefusedMemory answer
  pub goal : RefusedGoal answer

abbrev pub ReadingRefuses : Type 0
ReadingRefuses = Refusals reading_of

-- Two readings of an EN record, and certificates that differ only in ranks.

-- the fields that the cabinet reads, as they stand in a record
abbrev pub shown_fields : CabinetEntry → List Field
shown_fields r = u16 r.cell ∷ byte r.mode ∷ byte r.signal ∷ byte r.next_mode ∷ []

-- the cabinet's reading is bytes 2 to 6 of the record, field after field, and no other; the bench's is bytes 2 to 8, with the rank at the end
pub record TwoReadings (s : List ℕ) (e : ℕ) : Type 0 where
  pub cabinet : Stand s (entry_at s e + 2) (shown_fields (cabinet_entry_of s e)) (entry_at s e + 7)
  pub bench : Stand s (entry_at s e + 2) (shown_fields (bench_entry_of s e).shown ++ u16 (bench_entry_of s e).rank ∷ []) (entry_at s e + 9)

abbrev pub ReadingsStand : Type 0
ReadingsStand = (s : List ℕ) (e : ℕ) → TwoReadings s e

-- the same bytes but for ranks, record by record: those before the first entry, the first seven of each entry, and those from ZZ on
pub record SameButRanks (s t : List ℕ) : Type 0 where
  pub size : length s ≡ length t
  pub front : (o : ℕ) → o < entries_start s → byte_at s o ≡ byte_at t o
  pub entry : (e i : ℕ) → e < entries_of s → i < 7 → byte_at s (entry_at s e + i) ≡ byte_at t (entry_at s e + i)
  pub back : (o : ℕ) → end_at s ≤ o → byte_at s o ≡ byte_at t o

abbrev pub DifferIsPlain : Type 0
DifferIsPlain = (s t : List ℕ) → DifferInRanks s t ↔ SameButRanks s t

-- the cabinet's reading of every entry is the same in certificates that differ only in ranks
abbrev pub CabinetReadsNoRank : Type 0
CabinetReadsNoRank = (s t : List ℕ) → Readable s → DifferInRanks s t → (e : ℕ) → cabinet_entry_of s e ≡ cabinet_entry_of t e

-- the ranks of t stand where those of s do
abbrev pub RanksBack : Type 0
RanksBack = (s t : List ℕ) → Readable s → DifferInRanks s t → DifferInRanks t s
