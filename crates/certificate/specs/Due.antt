-- The records in the order in which reading takes them, and what may be wrong with the one that is due, in plain terms.
use Rattle.std.specs.Prelude.{ℕ, ◌+◌, ◌*◌, ◌≤◌, ◌<◌, true, List, ◌⊎◌, ◌≡◌, length, eqb}
use Rattle.certificate.specs.Loops.{pick, sum_to}
use Rattle.certificate.specs.Layout.{max_share, max_intervals, max_cells, header_size, link_size, turn_size, signal_size, mode_size, grid_size, arrival_size, entry_size, end_size, links_of, turns_of, signals_of, modes_of, boxes_of, entries_of, remembers, link_at, turn_at, from_of, to_of, share_of, signal_at, mode_records_of, mode_at, shown_before, goal_number_of, next_goal, grid_at, intervals_of, product_of, cells_of, arrival_at, entry_at, cell_of, mode_of, signal_of, next_mode_of, rank_of, end_at}
use Rattle.certificate.specs.Facts.{Mark, HeaderMark, HeaderFacts, LinkFacts, PairBelow, TurnFacts, SignalFacts, ModeFacts, SameGoals, NumbersUsed, GridFacts, BoxFacts, EntryFacts, PassesOn, TurnsOn}

-- The kinds of records. HD is the first one, whether its mark is HD, H2 or H3.
pub data Kind : Type 0 where
  HD LK TN SG MD GR AR EN ZZ : Kind

-- their order
abbrev pub order_of : Kind → ℕ
order_of HD = 0
order_of LK = 1
order_of TN = 2
order_of SG = 3
order_of MD = 4
order_of GR = 5
order_of AR = 6
order_of EN = 7
order_of ZZ = 8

-- the refusal of a field that breaks its line (EN: a name; its order has 22, what it passes on 23, its goal number 24. ZZ has no
-- field: 2 is a byte after it)
abbrev pub field_number : Kind → ℕ
field_number HD = 3
field_number LK = 4
field_number TN = 5
field_number SG = 6
field_number MD = 6
field_number GR = 7
field_number AR = 8
field_number EN = 9
field_number ZZ = 2

-- how many records of a kind there are
abbrev pub many_of : List ℕ → Kind → ℕ
many_of s HD = 1
many_of s LK = links_of s
many_of s TN = turns_of s
many_of s SG = signals_of s
many_of s MD = mode_records_of s
many_of s GR = links_of s
many_of s AR = boxes_of s
many_of s EN = entries_of s
many_of s ZZ = 1

-- where record i of a kind starts
abbrev pub record_at : List ℕ → Kind → ℕ → ℕ
record_at s HD i = 0
record_at s LK i = link_at s i
record_at s TN i = turn_at s i
record_at s SG i = signal_at s i
record_at s MD i = mode_at s i
record_at s GR i = grid_at s i
record_at s AR i = arrival_at s i
record_at s EN i = entry_at s i
record_at s ZZ i = end_at s

-- its mark is present
abbrev pub Present : List ℕ → Kind → ℕ → Type 0
Present s k i = record_at s k i + 2 ≤ length s

-- its mark is right
abbrev pub Marked : List ℕ → Kind → ℕ → Type 0
Marked s HD i = HeaderMark s
Marked s LK i = Mark s (link_at s i) 76 75
Marked s TN i = Mark s (turn_at s i) 84 78
Marked s SG i = Mark s (signal_at s i) 83 71
Marked s MD i = Mark s (mode_at s i) 77 68
Marked s GR i = Mark s (grid_at s i) 71 82
Marked s AR i = Mark s (arrival_at s i) 65 82
Marked s EN i = Mark s (entry_at s i) 69 78
Marked s ZZ i = Mark s (end_at s) 90 90

-- a GR's count, with the product so far
pub record CountFacts (s : List ℕ) (l : ℕ) : Type 0 where
  pub least : 1 ≤ intervals_of s l
  pub most : intervals_of s l ≤ max_intervals
  pub product : product_of s l * intervals_of s l ≤ max_cells

-- it is whole. The cuts of a GR must be present only where its count passes.
abbrev pub Whole : List ℕ → Kind → ℕ → Type 0
Whole s HD i = header_size ≤ length s
Whole s LK i = link_at s i + link_size s ≤ length s
Whole s TN i = turn_at s i + turn_size ≤ length s
Whole s SG i = signal_at s i + signal_size ≤ length s
Whole s MD i = mode_at s i + mode_size s ≤ length s
Whole s GR i = (grid_at s i + 3 ≤ length s) × (CountFacts s i → grid_at s i + grid_size (intervals_of s i) ≤ length s)
Whole s AR i = arrival_at s i + arrival_size (links_of s) ≤ length s
Whole s EN i = entry_at s i + entry_size ≤ length s
Whole s ZZ i = end_at s + end_size ≤ length s

-- the pair (f, g) of number i is above that of the one before it
abbrev pub Above : (ℕ → ℕ) → (ℕ → ℕ) → ℕ → Type 0
Above f g i = (h : ℕ) → h + 1 ≡ i → PairBelow (f h) (g h) (f i) (g i)

-- each mode before mode m that has its goal number has its goals
abbrev pub GoalsAgree : List ℕ → ℕ → Type 0
GoalsAgree s m = (k : ℕ) → k < m → goal_number_of s k ≡ goal_number_of s m → SameGoals s k m

-- the shares from the link of turn t, up to that turn, total at most 100
abbrev pub SharesFit : List ℕ → ℕ → Type 0
SharesFit s t = sum_to (t + 1) (λ u. pick (eqb (from_of s u) (from_of s t)) (share_of s u) 0) ≤ max_share

-- it is as its line of document 01 says, the mark included. The last MD answers for the goal numbers used.
abbrev pub Line : List ℕ → Kind → ℕ → Type 0
Line s HD i = HeaderFacts s
Line s LK i = LinkFacts s i
Line s TN i = TurnFacts s i × Above (from_of s) (to_of s) i × SharesFit s i
Line s SG i = SignalFacts s i
Line s MD i = ModeFacts s i × GoalsAgree s i × (i + 1 ≡ modes_of s → NumbersUsed s)
Line s GR i = GridFacts s i
Line s AR i = BoxFacts s i
Line s EN i = EntryFacts s i × Above (cell_of s) (mode_of s) i × PassesOn s i × TurnsOn s i
Line s ZZ i = Mark s (end_at s) 90 90 × (length s ≡ end_at s + end_size)

-- record i of kind k is due: it is one of those that HD counts, and every record before it is whole and as its line says
pub record Due (s : List ℕ) (k : Kind) (i : ℕ) : Type 0 where
  pub counted : i < many_of s k
  pub before : (j : Kind) (h : ℕ) → h < many_of s j → PairBelow (order_of j) h (order_of k) i → Whole s j h × Line s j h

-- What may be wrong with it, in the order of the tests: mark present, mark right, record whole, fields.
abbrev pub TooShort : List ℕ → Kind → ℕ → Type 0
TooShort s k i = (Present s k i → ⊥) ⊎ (Marked s k i × (Whole s k i → ⊥))

abbrev pub WrongMark : List ℕ → Kind → ℕ → Type 0
WrongMark s k i = Present s k i × (Marked s k i → ⊥)

-- its fields, where its line has one refusal: every kind but EN
abbrev pub BrokenLine : List ℕ → Kind → ℕ → Type 0
BrokenLine s k i = Marked s k i × Whole s k i × (Line s k i → ⊥)

-- An entry's line has four. First its names: a cell, mode, signal or next mode that it names is missing.
pub data Missing (s : List ℕ) (e : ℕ) : Type 0 where
  cell : cells_of s ≤ cell_of s e → Missing s e
  mode : modes_of s ≤ mode_of s e → Missing s e
  signal : signals_of s ≤ signal_of s e → Missing s e
  next_mode : modes_of s ≤ next_mode_of s e → Missing s e

abbrev pub MissingName : List ℕ → ℕ → Type 0
MissingName s e = Marked s EN e × Whole s EN e × Missing s e

-- Then its order: its names exist, and its pair (cell, mode) is not above that of entry h, the one before it.
abbrev pub WrongOrder : List ℕ → ℕ → Type 0
WrongOrder s e =
    Whole s EN e × EntryFacts s e × ((h : ℕ) × (h + 1 ≡ e) × (PairBelow (cell_of s h) (mode_of s h) (cell_of s e) (mode_of s e) → ⊥))

-- Then what it passes on: its names exist, its pair is above, and in H2 and H3 its next mode remembers a signal other than its own.
abbrev pub OtherSignal : List ℕ → ℕ → Type 0
OtherSignal s e =
    Whole s EN e × EntryFacts s e × Above (cell_of s) (mode_of s) e × (remembers s ≡ true) × (shown_before s (next_mode_of s e) ≡ signal_of s e → ⊥)

-- Then its goal number, with all of that as it must be: a rank above 0 changes it, or rank 0 does not pass to the next one.
pub data OtherNumber (s : List ℕ) (e : ℕ) : Type 0 where
  changes : 0 < rank_of s e → (goal_number_of s (next_mode_of s e) ≡ goal_number_of s (mode_of s e) → ⊥) → OtherNumber s e
  not_next : rank_of s e ≡ 0 → (goal_number_of s (next_mode_of s e) ≡ next_goal s (goal_number_of s (mode_of s e)) → ⊥) → OtherNumber s e

abbrev pub OtherGoal : List ℕ → ℕ → Type 0
OtherGoal s e = Whole s EN e × EntryFacts s e × Above (cell_of s) (mode_of s) e × PassesOn s e × OtherNumber s e
