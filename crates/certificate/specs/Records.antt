-- The tests of each record, and their refusals 1 to 9, 22, 23 and 24.
use Rattle.std.specs.Prelude.{ℕ, zero, suc, ◌+◌, ◌*◌, ◌-◌, ◌^◌, List, Bool, true, not, ◌&&◌, ◌||◌, length, ltb, leb, eqb}
use Rattle.certificate.specs.declared.Report.{Report}
use Rattle.certificate.specs.Octets.{◌also◌}
use Rattle.certificate.specs.Loops.{pick, sum_to, any_to, every}
use Rattle.certificate.specs.Checks.{refusal, fine, need, or_else, first_bad, marked, opened}
use Rattle.certificate.specs.Layout.{max_links, max_turns, max_signals, max_modes, max_boxes, max_entries, max_cap, max_share, max_pull, max_arrival, max_intervals, max_cells, max_goal_number, header_size, link_size, turn_size, signal_size, mode_size, grid_size, arrival_size, entry_size, end_size, links_of, turns_of, signals_of, modes_of, boxes_of, entries_of, remembers, takes_turns, link_at, tail_of, head_of, cap_of, flow_of, safe_of, goal_of, start_flow_of, turn_at, from_of, to_of, share_of, pull_of, signal_at, green_byte_of, mode_at, shown_before, goal_number_of, goal_for, greatest_goal, next_goal, grid_at, intervals_of, cut_of, product_of, cells_of, arrival_at, low_of, high_of, entry_at, cell_of, mode_of, signal_of, next_mode_of, rank_of, end_at}

-- HD: links 1 to 8, turns 0 to 32, signals 1 to 16, modes 1 to 8, arrival boxes 1 to 8, entries 1 to 4,096. Mark "HD", "H2" or "H3".
unfoldable pub header_ok : List ℕ → Bool
header_ok s =
    leb 1 (links_of s) also leb (links_of s) max_links
    also leb (turns_of s) max_turns
    also leb 1 (signals_of s) also leb (signals_of s) max_signals
    also leb 1 (modes_of s) also leb (modes_of s) max_modes
    also leb 1 (boxes_of s) also leb (boxes_of s) max_boxes
    also leb 1 (entries_of s) also leb (entries_of s) max_entries

unfoldable pub header_marked : List ℕ → Bool
header_marked s = marked s 0 72 68 || marked s 0 72 50 || marked s 0 72 51

unfoldable pub header_fault : List ℕ → Report
header_fault s = or_else (opened s 0 (header_marked s) header_size) (need (header_ok s) (refusal 3 0) fine)

-- LK: head 1 to 255 and not the tail, cap 1 to 10,000, flow 1 to cap, safe at most cap, goal at most safe, start flow 1 to flow. Mark "LK".
unfoldable pub link_ok : List ℕ → ℕ → Bool
link_ok s l =
    leb 1 (head_of s l)
    also not (eqb (head_of s l) (tail_of s l))
    also leb 1 (cap_of s l) also leb (cap_of s l) max_cap
    also leb 1 (flow_of s l) also leb (flow_of s l) (cap_of s l)
    also leb (safe_of s l) (cap_of s l)
    also leb (goal_of s l) (safe_of s l)
    also leb 1 (start_flow_of s l) also leb (start_flow_of s l) (flow_of s l)

unfoldable pub link_fault : List ℕ → ℕ → Report
link_fault s l =
    or_else (opened s (link_at s l) (marked s (link_at s l) 76 75) (link_size s))
    (need (link_ok s l) (refusal 4 (link_at s l)) fine)

-- pairs (a, b) and (c, d) ascend strictly: by the first, then by the second
unfoldable pub pair_below : ℕ → ℕ → ℕ → ℕ → Bool
pair_below a b c d = ltb a c || (eqb a c && ltb b d)

-- the pair (from, to) of turn t is above that of the turn before it
unfoldable pub turn_ascends : List ℕ → ℕ → Bool
turn_ascends s zero = true
turn_ascends s (suc t) = pair_below (from_of s t) (to_of s t) (from_of s (suc t)) (to_of s (suc t))

-- what the shares from the link of turn t total, up to that turn
unfoldable pub share_total : List ℕ → ℕ → ℕ
share_total s t = sum_to (t + 1) (λ u. pick (eqb (from_of s u) (from_of s t)) (share_of s u) 0)

-- TN: existing links, head of from = tail of to, share 1 to 100, pull 1 to 10,000; pairs ascend; shares total at most 100. Mark "TN".
unfoldable pub turn_ok : List ℕ → ℕ → Bool
turn_ok s t =
    ltb (from_of s t) (links_of s) also ltb (to_of s t) (links_of s)
    also eqb (head_of s (from_of s t)) (tail_of s (to_of s t))
    also leb 1 (share_of s t) also leb (share_of s t) max_share
    also leb 1 (pull_of s t) also leb (pull_of s t) max_pull
    also turn_ascends s t
    also leb (share_total s t) max_share

unfoldable pub turn_fault : List ℕ → ℕ → Report
turn_fault s t =
    or_else (opened s (turn_at s t) (marked s (turn_at s t) 84 78) turn_size)
    (need (turn_ok s t) (refusal 5 (turn_at s t)) fine)

-- SG: bits of absent links are 0. Mark "SG".
unfoldable pub signal_ok : List ℕ → ℕ → Bool
signal_ok s g = ltb (green_byte_of s g) (2 ^ links_of s)

unfoldable pub signal_fault : List ℕ → ℕ → Report
signal_fault s g =
    or_else (opened s (signal_at s g) (marked s (signal_at s g) 83 71) signal_size)
    (need (signal_ok s g) (refusal 6 (signal_at s g)) fine)

-- the goals of mode m are at most safe
unfoldable pub goals_safe : List ℕ → ℕ → Bool
goals_safe s m = every (links_of s) (λ l. leb (goal_for s m l) (safe_of s l))

-- modes k and m have equal goals
unfoldable pub same_goals : List ℕ → ℕ → ℕ → Bool
same_goals s k m = every (links_of s) (λ l. eqb (goal_for s k l) (goal_for s m l))

-- the goals of mode m are those of each mode before it that has its goal number
unfoldable pub goals_agree : List ℕ → ℕ → Bool
goals_agree s m = every m (λ k. not (eqb (goal_number_of s k) (goal_number_of s m)) || same_goals s k m)

-- goal number n is used
unfoldable pub is_used : List ℕ → ℕ → Bool
is_used s n = any_to (modes_of s) (λ m. eqb (goal_number_of s m) n)

-- the goal numbers used are 0 up to the greatest
unfoldable pub no_gap : List ℕ → Bool
no_gap s = every (greatest_goal s) (is_used s)

-- the goals of mode m in H3: number 0 to 7, goals at most safe, equal goals for equal numbers, and at the last mode no gap
unfoldable pub goals_ok : List ℕ → ℕ → Bool
goals_ok s m =
    leb (goal_number_of s m) max_goal_number
    also goals_safe s m
    also goals_agree s m
    also (not (eqb (m + 1) (modes_of s)) || no_gap s)

-- MD: the signal shown before exists; in H3 the goals are as they must be. Mark "MD".
unfoldable pub mode_ok : List ℕ → ℕ → Bool
mode_ok s m = ltb (shown_before s m) (signals_of s) also (not (takes_turns s) || goals_ok s m)

unfoldable pub mode_fault : List ℕ → ℕ → Report
mode_fault s m =
    or_else (opened s (mode_at s m) (marked s (mode_at s m) 77 68) (mode_size s))
    (need (mode_ok s m) (refusal 6 (mode_at s m)) fine)

-- the cut before cut i of link l, and 0 before the first
unfoldable pub cut_before : List ℕ → ℕ → ℕ → ℕ
cut_before s l zero = 0
cut_before s l (suc i) = cut_of s l i

-- cuts ascend strictly, from 1 to cap − 1
unfoldable pub cut_ok : List ℕ → ℕ → ℕ → Bool
cut_ok s l i = ltb (cut_before s l i) (cut_of s l i) also ltb (cut_of s l i) (cap_of s l)

unfoldable pub cut_fault : List ℕ → ℕ → ℕ → Report
cut_fault s l i = need (cut_ok s l i) (refusal 7 (grid_at s l)) fine

-- interval count 1 to 15, and the product of the counts so far at most 4,096
unfoldable pub count_ok : List ℕ → ℕ → Bool
count_ok s l =
    leb 1 (intervals_of s l) also leb (intervals_of s l) max_intervals
    also leb (product_of s l * intervals_of s l) max_cells

-- GR: mark and count present; the count, with the product so far; the cuts present; the cuts. Mark "GR".
unfoldable pub grid_fault : List ℕ → ℕ → Report
grid_fault s l =
    or_else (opened s (grid_at s l) (marked s (grid_at s l) 71 82) 3)
    (need (count_ok s l) (refusal 7 (grid_at s l))
    (need (leb (grid_at s l + grid_size (intervals_of s l)) (length s)) (refusal 1 (grid_at s l))
    (first_bad (intervals_of s l - 1) (cut_fault s l))))

-- AR: for each link low at most high, high at most 10,000. Mark "AR".
unfoldable pub range_ok : List ℕ → ℕ → ℕ → Bool
range_ok s b l = leb (low_of s b l) (high_of s b l) also leb (high_of s b l) max_arrival

unfoldable pub range_fault : List ℕ → ℕ → ℕ → Report
range_fault s b l = need (range_ok s b l) (refusal 8 (arrival_at s b)) fine

unfoldable pub arrival_fault : List ℕ → ℕ → Report
arrival_fault s b =
    or_else (opened s (arrival_at s b) (marked s (arrival_at s b) 65 82) (arrival_size (links_of s)))
    (first_bad (links_of s) (range_fault s b))

-- the cell, mode, signal and next mode that entry e names exist
unfoldable pub names_exist : List ℕ → ℕ → Bool
names_exist s e =
    ltb (cell_of s e) (cells_of s) also ltb (mode_of s e) (modes_of s)
    also ltb (signal_of s e) (signals_of s) also ltb (next_mode_of s e) (modes_of s)

-- the pair (cell, mode) of entry e is above that of the entry before it
unfoldable pub entry_ascends : List ℕ → ℕ → Bool
entry_ascends s zero = true
entry_ascends s (suc e) = pair_below (cell_of s e) (mode_of s e) (cell_of s (suc e)) (mode_of s (suc e))

-- in H2 and H3 the next mode of entry e remembers its signal
unfoldable pub passes_on : List ℕ → ℕ → Bool
passes_on s e = not (remembers s) || eqb (shown_before s (next_mode_of s e)) (signal_of s e)

-- the next mode of entry e has the goal number of its mode where its rank is above 0, and the next number where its rank is 0
unfoldable pub turns_on : List ℕ → ℕ → Bool
turns_on s e =
    eqb (goal_number_of s (next_mode_of s e))
    (pick (eqb (rank_of s e) 0) (next_goal s (goal_number_of s (mode_of s e))) (goal_number_of s (mode_of s e)))

-- EN: names exist (9), then pairs ascend (22), then the next mode remembers the signal (23), then it has the goal number due (24), all with the
-- record's offset; the rank is free but for 24. Mark "EN".
unfoldable pub entry_fault : List ℕ → ℕ → Report
entry_fault s e =
    or_else (opened s (entry_at s e) (marked s (entry_at s e) 69 78) entry_size)
    (need (names_exist s e) (refusal 9 (entry_at s e))
    (need (entry_ascends s e) (refusal 22 (entry_at s e))
    (need (passes_on s e) (refusal 23 (entry_at s e))
    (need (turns_on s e) (refusal 24 (entry_at s e))
    fine))))

-- ZZ: nothing follows; a byte after it is refused at its own offset. Mark "ZZ".
unfoldable pub end_fault : List ℕ → Report
end_fault s =
    or_else (opened s (end_at s) (marked s (end_at s) 90 90) end_size)
    (need (leb (length s) (end_at s + end_size)) (refusal 2 (end_at s + end_size)) fine)
