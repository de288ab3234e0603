-- What reading establishes, in plain terms: the lines of document 01's paper layout, for every link, turn, box, entry and offset.
use Rattle.std.specs.Prelude.{ℕ, ◌+◌, ◌*◌, ◌^◌, ◌≤◌, ◌<◌, true, List, ◌⊎◌, ◌≡◌, length, eqb}
use Rattle.certificate.specs.Octets.{byte_at}
use Rattle.certificate.specs.Loops.{pick, sum_to}
use Rattle.certificate.specs.Layout.{max_links, max_turns, max_signals, max_modes, max_boxes, max_entries, max_cap, max_share, max_pull, max_arrival, max_intervals, max_cells, max_goal_number, end_size, links_of, turns_of, signals_of, modes_of, boxes_of, entries_of, remembers, takes_turns, link_at, tail_of, head_of, cap_of, flow_of, safe_of, goal_of, start_flow_of, turn_at, from_of, to_of, share_of, pull_of, signal_at, green_byte_of, mode_records_of, mode_at, shown_before, goal_number_of, goal_for, greatest_goal, next_goal, grid_at, intervals_of, cut_of, product_of, cells_of, arrival_at, low_of, high_of, entry_at, cell_of, mode_of, signal_of, next_mode_of, rank_of, end_at}

-- the mark at offset o is m and k
pub record Mark (s : List ℕ) (o m k : ℕ) : Type 0 where
  pub first : byte_at s o ≡ m
  pub second : byte_at s (o + 1) ≡ k

-- HD, H2 or H3
abbrev pub HeaderMark : List ℕ → Type 0
HeaderMark s = Mark s 0 72 68 ⊎ Mark s 0 72 50 ⊎ Mark s 0 72 51

pub record HeaderFacts (s : List ℕ) : Type 0 where
  pub mark : HeaderMark s
  pub links_least : 1 ≤ links_of s
  pub links_most : links_of s ≤ max_links
  pub turns_most : turns_of s ≤ max_turns
  pub signals_least : 1 ≤ signals_of s
  pub signals_most : signals_of s ≤ max_signals
  pub modes_least : 1 ≤ modes_of s
  pub modes_most : modes_of s ≤ max_modes
  pub boxes_least : 1 ≤ boxes_of s
  pub boxes_most : boxes_of s ≤ max_boxes
  pub entries_least : 1 ≤ entries_of s
  pub entries_most : entries_of s ≤ max_entries

pub record LinkFacts (s : List ℕ) (l : ℕ) : Type 0 where
  pub mark : Mark s (link_at s l) 76 75
  pub head_least : 1 ≤ head_of s l
  pub no_loop : head_of s l ≡ tail_of s l → ⊥
  pub cap_least : 1 ≤ cap_of s l
  pub cap_most : cap_of s l ≤ max_cap
  pub flow_least : 1 ≤ flow_of s l
  pub flow_most : flow_of s l ≤ cap_of s l
  pub safe_most : safe_of s l ≤ cap_of s l
  pub goal_most : goal_of s l ≤ safe_of s l
  pub start_least : 1 ≤ start_flow_of s l
  pub start_most : start_flow_of s l ≤ flow_of s l

-- the pair (a, b) is below (c, d): by the first, then by the second
abbrev pub PairBelow : ℕ → ℕ → ℕ → ℕ → Type 0
PairBelow a b c d = (a < c) ⊎ ((a ≡ c) × (b < d))

pub record TurnFacts (s : List ℕ) (t : ℕ) : Type 0 where
  pub mark : Mark s (turn_at s t) 84 78
  pub from_link : from_of s t < links_of s
  pub to_link : to_of s t < links_of s
  pub joined : head_of s (from_of s t) ≡ tail_of s (to_of s t)
  pub share_least : 1 ≤ share_of s t
  pub share_most : share_of s t ≤ max_share
  pub pull_least : 1 ≤ pull_of s t
  pub pull_most : pull_of s t ≤ max_pull

pub record SignalFacts (s : List ℕ) (g : ℕ) : Type 0 where
  pub mark : Mark s (signal_at s g) 83 71
  pub absent_red : green_byte_of s g < 2 ^ links_of s

pub record ModeFacts (s : List ℕ) (m : ℕ) : Type 0 where
  pub mark : Mark s (mode_at s m) 77 68
  pub signal : shown_before s m < signals_of s
  pub number_most : goal_number_of s m ≤ max_goal_number
  pub goals_most : takes_turns s ≡ true → (l : ℕ) → l < links_of s → goal_for s m l ≤ safe_of s l

-- modes k and m have equal goals
abbrev pub SameGoals : List ℕ → ℕ → ℕ → Type 0
SameGoals s k m = (l : ℕ) → l < links_of s → goal_for s k l ≡ goal_for s m l

-- some mode has goal number n
abbrev pub Used : List ℕ → ℕ → Type 0
Used s n = (m : ℕ) × (m < modes_of s) × (goal_number_of s m ≡ n)

-- the goal numbers used are 0 up to the greatest
abbrev pub NumbersUsed : List ℕ → Type 0
NumbersUsed s = (n : ℕ) → n ≤ greatest_goal s → Used s n

pub record GridFacts (s : List ℕ) (l : ℕ) : Type 0 where
  pub mark : Mark s (grid_at s l) 71 82
  pub count_least : 1 ≤ intervals_of s l
  pub count_most : intervals_of s l ≤ max_intervals
  pub product_most : product_of s l * intervals_of s l ≤ max_cells
  pub cut_least : (i : ℕ) → i + 1 < intervals_of s l → 1 ≤ cut_of s l i
  pub cut_most : (i : ℕ) → i + 1 < intervals_of s l → cut_of s l i < cap_of s l
  pub ascend : (i j : ℕ) → i < j → j + 1 < intervals_of s l → cut_of s l i < cut_of s l j

pub record BoxFacts (s : List ℕ) (b : ℕ) : Type 0 where
  pub mark : Mark s (arrival_at s b) 65 82
  pub low_most : (l : ℕ) → l < links_of s → low_of s b l ≤ high_of s b l
  pub high_most : (l : ℕ) → l < links_of s → high_of s b l ≤ max_arrival

pub record EntryFacts (s : List ℕ) (e : ℕ) : Type 0 where
  pub mark : Mark s (entry_at s e) 69 78
  pub cell : cell_of s e < cells_of s
  pub mode : mode_of s e < modes_of s
  pub signal : signal_of s e < signals_of s
  pub next_mode : next_mode_of s e < modes_of s

-- in H2 and H3 the next mode of entry e remembers its signal
abbrev pub PassesOn : List ℕ → ℕ → Type 0
PassesOn s e = remembers s ≡ true → shown_before s (next_mode_of s e) ≡ signal_of s e

-- a rank above 0 keeps the goal number, and rank 0 passes to the next one, 0 after the greatest
pub record TurnsOn (s : List ℕ) (e : ℕ) : Type 0 where
  pub stays : 0 < rank_of s e → goal_number_of s (next_mode_of s e) ≡ goal_number_of s (mode_of s e)
  pub passes : rank_of s e ≡ 0 → goal_number_of s (next_mode_of s e) ≡ next_goal s (goal_number_of s (mode_of s e))

-- a readable certificate, record by record
pub record Readable (s : List ℕ) : Type 0 where
  pub header : HeaderFacts s
  pub link : (l : ℕ) → l < links_of s → LinkFacts s l
  pub turn : (t : ℕ) → t < turns_of s → TurnFacts s t
  -- pairs (from, to) strictly ascend
  pub turns_ascend : (t u : ℕ) → t < u → u < turns_of s → PairBelow (from_of s t) (to_of s t) (from_of s u) (to_of s u)
  -- shares from one link total at most 100
  pub shares : (l : ℕ) → sum_to (turns_of s) (λ t. pick (eqb (from_of s t) l) (share_of s t) 0) ≤ max_share
  pub signal : (g : ℕ) → g < signals_of s → SignalFacts s g
  pub mode : (m : ℕ) → m < mode_records_of s → ModeFacts s m
  -- modes with equal goal numbers have equal goals
  pub goals_agree_fact : (k m : ℕ) → k < modes_of s → m < modes_of s → goal_number_of s k ≡ goal_number_of s m → SameGoals s k m
  pub numbers_used : NumbersUsed s
  pub grid : (l : ℕ) → l < links_of s → GridFacts s l
  pub box : (b : ℕ) → b < boxes_of s → BoxFacts s b
  pub entry : (e : ℕ) → e < entries_of s → EntryFacts s e
  -- pairs (cell, mode) strictly ascend
  pub entries_ascend : (e f : ℕ) → e < f → f < entries_of s → PairBelow (cell_of s e) (mode_of s e) (cell_of s f) (mode_of s f)
  pub passes_on_fact : (e : ℕ) → e < entries_of s → PassesOn s e
  pub turns_on_fact : (e : ℕ) → e < entries_of s → TurnsOn s e
  -- ZZ, and nothing follows
  pub end_mark : Mark s (end_at s) 90 90
  pub whole : length s ≡ end_at s + end_size
