-- Paper layout of document 01: the limits of the format, where each record stands, and its fields.
-- Records come in the order HD, LK, TN, SG, GR, AR, EN, ZZ. Certificates of the kind H2 (document 02, 5/14) open with H2 in place of HD, have
-- a start flow in each LK, and MD records after SG. Those of the kind H3 (6/14) have goals in turn besides: a goal number and goals in each MD.
use Rattle.std.specs.Prelude.{ℕ, zero, suc, ◌+◌, ◌*◌, List, Bool, ◌||◌, eqb}
use Rattle.certificate.specs.Octets.{byte_at, u16_at}
use Rattle.certificate.specs.Loops.{pick, greatest_to}

-- The limits.
abbrev pub max_links : ℕ
max_links = 8

abbrev pub max_turns : ℕ
max_turns = 32

abbrev pub max_signals : ℕ
max_signals = 16

abbrev pub max_modes : ℕ
max_modes = 8

abbrev pub max_boxes : ℕ
max_boxes = 8

abbrev pub max_entries : ℕ
max_entries = 4096

abbrev pub max_cap : ℕ
max_cap = 10000

-- of a share, and of all shares from one link, in hundredths
abbrev pub max_share : ℕ
max_share = 100

abbrev pub max_pull : ℕ
max_pull = 10000

-- of the sum of share × pull over the turns into a link (condition 10)
abbrev pub max_pull_sum : ℕ
max_pull_sum = 10000

abbrev pub max_arrival : ℕ
max_arrival = 10000

abbrev pub max_intervals : ℕ
max_intervals = 15

abbrev pub max_cells : ℕ
max_cells = 4096

-- of a goal number
abbrev pub max_goal_number : ℕ
max_goal_number = 7

-- of a query's scale
abbrev pub max_scale : ℕ
max_scale = 100000

-- The sizes of the records, marks included. A GR holds a mark, a count and one cut fewer than its count.
abbrev pub header_size : ℕ
header_size = 9

-- LK of HD, and of H2 and H3, the greatest
abbrev pub plain_link_size : ℕ
plain_link_size = 12

abbrev pub max_link_size : ℕ
max_link_size = 14

abbrev pub turn_size : ℕ
turn_size = 7

abbrev pub signal_size : ℕ
signal_size = 3

-- MD of H2, and of H3
abbrev pub plain_mode_size : ℕ
plain_mode_size = 3

abbrev pub goal_mode_size : ℕ → ℕ
goal_mode_size links = 4 + 2 * links

abbrev pub grid_size : ℕ → ℕ
grid_size count = 1 + 2 * count

abbrev pub arrival_size : ℕ → ℕ
arrival_size links = 2 + 4 * links

abbrev pub entry_size : ℕ
entry_size = 9

abbrev pub end_size : ℕ
end_size = 2

-- the greatest length of a certificate: the sum of its greatest records
abbrev pub max_length : ℕ
max_length =
    header_size + max_links * max_link_size + max_turns * turn_size + max_signals * signal_size + max_modes * goal_mode_size max_links
    + max_links * grid_size max_intervals + max_boxes * arrival_size max_links + max_entries * entry_size + end_size

-- HD, H2 or H3: the kind, which is the second byte of the mark, and how many links, turns, signals, modes, arrival boxes, entries.
abbrev pub kind_byte_of : List ℕ → ℕ
kind_byte_of s = byte_at s 1

-- the kind is H2 or H3: links have start flows, and modes remember the signal shown before
unfoldable pub remembers : List ℕ → Bool
remembers s = eqb (kind_byte_of s) 50 || eqb (kind_byte_of s) 51

-- the kind is H3: modes have goals in turn
unfoldable pub takes_turns : List ℕ → Bool
takes_turns s = eqb (kind_byte_of s) 51

abbrev pub links_of : List ℕ → ℕ
links_of s = byte_at s 2

abbrev pub turns_of : List ℕ → ℕ
turns_of s = byte_at s 3

abbrev pub signals_of : List ℕ → ℕ
signals_of s = byte_at s 4

abbrev pub modes_of : List ℕ → ℕ
modes_of s = byte_at s 5

abbrev pub boxes_of : List ℕ → ℕ
boxes_of s = byte_at s 6

abbrev pub entries_of : List ℕ → ℕ
entries_of s = u16_at s 7

-- LK, link l: tail and head junction, cap (storage capacity), flow (saturation flow: the most that leaves in a step), safe, goal, and in H2 and
-- H3 start flow: the most that leaves in the first green step.
unfoldable pub link_size : List ℕ → ℕ
link_size s = pick (remembers s) max_link_size plain_link_size

abbrev pub link_at : List ℕ → ℕ → ℕ
link_at s l = header_size + link_size s * l

abbrev pub tail_of : List ℕ → ℕ → ℕ
tail_of s l = byte_at s (link_at s l + 2)

abbrev pub head_of : List ℕ → ℕ → ℕ
head_of s l = byte_at s (link_at s l + 3)

abbrev pub cap_of : List ℕ → ℕ → ℕ
cap_of s l = u16_at s (link_at s l + 4)

abbrev pub flow_of : List ℕ → ℕ → ℕ
flow_of s l = u16_at s (link_at s l + 6)

abbrev pub safe_of : List ℕ → ℕ → ℕ
safe_of s l = u16_at s (link_at s l + 8)

abbrev pub goal_of : List ℕ → ℕ → ℕ
goal_of s l = u16_at s (link_at s l + 10)

-- in HD the first green step has the full flow
unfoldable pub start_flow_of : List ℕ → ℕ → ℕ
start_flow_of s l = pick (remembers s) (u16_at s (link_at s l + 12)) (flow_of s l)

-- TN, turn t: from, to, share (turn ratio in hundredths), pull (supply ratio in hundredths).
unfoldable pub turns_start : List ℕ → ℕ
turns_start s = link_at s (links_of s)

abbrev pub turn_at : List ℕ → ℕ → ℕ
turn_at s t = turns_start s + turn_size * t

abbrev pub from_of : List ℕ → ℕ → ℕ
from_of s t = byte_at s (turn_at s t + 2)

abbrev pub to_of : List ℕ → ℕ → ℕ
to_of s t = byte_at s (turn_at s t + 3)

abbrev pub share_of : List ℕ → ℕ → ℕ
share_of s t = byte_at s (turn_at s t + 4)

abbrev pub pull_of : List ℕ → ℕ → ℕ
pull_of s t = u16_at s (turn_at s t + 5)

-- SG, signal g: the byte whose bit i is set when link i is green.
unfoldable pub signals_start : List ℕ → ℕ
signals_start s = turn_at s (turns_of s)

abbrev pub signal_at : List ℕ → ℕ → ℕ
signal_at s g = signals_start s + signal_size * g

abbrev pub green_byte_of : List ℕ → ℕ → ℕ
green_byte_of s g = byte_at s (signal_at s g + 2)

-- MD, mode m: the signal shown before, and in H3 goal number and one goal a link. H2 and H3 have one a mode, HD none.
unfoldable pub mode_records_of : List ℕ → ℕ
mode_records_of s = pick (remembers s) (modes_of s) 0

unfoldable pub modes_start : List ℕ → ℕ
modes_start s = signal_at s (signals_of s)

unfoldable pub mode_size : List ℕ → ℕ
mode_size s = pick (takes_turns s) (goal_mode_size (links_of s)) plain_mode_size

abbrev pub mode_at : List ℕ → ℕ → ℕ
mode_at s m = modes_start s + mode_size s * m

-- 0 in HD, where no limit depends on it
unfoldable pub shown_before : List ℕ → ℕ → ℕ
shown_before s m = pick (remembers s) (byte_at s (mode_at s m + 2)) 0

-- in HD and H2 there is one goal, number 0, that of LK
unfoldable pub goal_number_of : List ℕ → ℕ → ℕ
goal_number_of s m = pick (takes_turns s) (byte_at s (mode_at s m + 3)) 0

-- the goal of mode m on link l
unfoldable pub goal_for : List ℕ → ℕ → ℕ → ℕ
goal_for s m l = pick (takes_turns s) (u16_at s (mode_at s m + (4 + 2 * l))) (goal_of s l)

-- the greatest goal number used, and the number after number n: 0 after the greatest
unfoldable pub greatest_goal : List ℕ → ℕ
greatest_goal s = greatest_to (modes_of s) (goal_number_of s)

unfoldable pub next_goal : List ℕ → ℕ → ℕ
next_goal s n = pick (eqb n (greatest_goal s)) 0 (n + 1)

-- GR, link l: how many intervals, and its cuts. The records differ in size, so each starts where the one before it ends.
unfoldable pub grid_start : List ℕ → ℕ
grid_start s = mode_at s (mode_records_of s)

abbrev pub count_at : List ℕ → ℕ → ℕ
count_at s o = byte_at s (o + 2)

abbrev pub cut_at : List ℕ → ℕ → ℕ → ℕ
cut_at s o i = u16_at s (o + 3 + 2 * i)

unfoldable pub grid_at : List ℕ → ℕ → ℕ
grid_at s zero = grid_start s
grid_at s (suc l) = grid_at s l + grid_size (count_at s (grid_at s l))

abbrev pub intervals_of : List ℕ → ℕ → ℕ
intervals_of s l = count_at s (grid_at s l)

abbrev pub cut_of : List ℕ → ℕ → ℕ → ℕ
cut_of s l i = cut_at s (grid_at s l) i

-- the product of the counts of the links before l
unfoldable pub product_of : List ℕ → ℕ → ℕ
product_of s zero = 1
product_of s (suc l) = product_of s l * intervals_of s l

-- how many cells there are
abbrev pub cells_of : List ℕ → ℕ
cells_of s = product_of s (links_of s)

-- AR, arrival box b: for each link the least (low) and the most (high) that arrives in a step.
unfoldable pub arrivals_start : List ℕ → ℕ
arrivals_start s = grid_at s (links_of s)

abbrev pub arrival_at : List ℕ → ℕ → ℕ
arrival_at s b = arrivals_start s + arrival_size (links_of s) * b

abbrev pub low_of : List ℕ → ℕ → ℕ → ℕ
low_of s b l = u16_at s (arrival_at s b + (2 + 4 * l))

abbrev pub high_of : List ℕ → ℕ → ℕ → ℕ
high_of s b l = u16_at s (arrival_at s b + (4 + 4 * l))

-- EN, entry e: cell, mode, signal, next mode, rank (the progress measure).
unfoldable pub entries_start : List ℕ → ℕ
entries_start s = arrival_at s (boxes_of s)

abbrev pub entry_at : List ℕ → ℕ → ℕ
entry_at s e = entries_start s + entry_size * e

abbrev pub cell_of : List ℕ → ℕ → ℕ
cell_of s e = u16_at s (entry_at s e + 2)

abbrev pub mode_of : List ℕ → ℕ → ℕ
mode_of s e = byte_at s (entry_at s e + 4)

abbrev pub signal_of : List ℕ → ℕ → ℕ
signal_of s e = byte_at s (entry_at s e + 5)

abbrev pub next_mode_of : List ℕ → ℕ → ℕ
next_mode_of s e = byte_at s (entry_at s e + 6)

abbrev pub rank_of : List ℕ → ℕ → ℕ
rank_of s e = u16_at s (entry_at s e + 7)

-- ZZ: nothing follows.
unfoldable pub end_at : List ℕ → ℕ
end_at s = entry_at s (entries_of s)
