-- The certificates of the bench cases, record by record.
use Rattle.std.specs.Prelude.{ℕ, List, [], ◌∷◌, ◌++◌, replicate}

-- paper L of document 01 with cap 10, flow 6 and goal 5 on its one link, cuts 5 and 8; its entries and its two numbers that the cases change are given
abbrev pub paper_l : ℕ → ℕ → ℕ → List ℕ → List ℕ
paper_l entries safe high records =
    (0x48 ∷ 0x44 ∷ 0x01 ∷ 0x00 ∷ 0x01 ∷ 0x01 ∷ 0x01 ∷ 0x00 ∷ entries ∷ [])
    ++ (0x4C ∷ 0x4B ∷ 0x00 ∷ 0x01 ∷ 0x00 ∷ 0x0A ∷ 0x00 ∷ 0x06 ∷ 0x00 ∷ safe ∷ 0x00 ∷ 0x05 ∷ [])
    ++ (0x53 ∷ 0x47 ∷ 0x01 ∷ [])
    ++ (0x47 ∷ 0x52 ∷ 0x03 ∷ 0x00 ∷ 0x05 ∷ 0x00 ∷ 0x08 ∷ [])
    ++ (0x41 ∷ 0x52 ∷ 0x00 ∷ 0x00 ∷ 0x00 ∷ high ∷ [])
    ++ records
    ++ (0x5A ∷ 0x5A ∷ [])

-- an entry of paper L: mode, signal and next mode are 0
abbrev pub entry_of : ℕ → ℕ → List ℕ
entry_of cell rank = 0x45 ∷ 0x4E ∷ 0x00 ∷ cell ∷ 0x00 ∷ 0x00 ∷ 0x00 ∷ 0x00 ∷ rank ∷ []

abbrev pub paper_one : List ℕ
paper_one = paper_l 3 10 2 (entry_of 0 0 ++ entry_of 1 1 ++ entry_of 2 2)

-- with a second arrival box, of 0 to 1
abbrev pub paper_two_boxes : List ℕ
paper_two_boxes =
    (0x48 ∷ 0x44 ∷ 1 ∷ 0 ∷ 1 ∷ 1 ∷ 2 ∷ 0 ∷ 3 ∷ []) ++ (0x4C ∷ 0x4B ∷ 0 ∷ 1 ∷ 0 ∷ 10 ∷ 0 ∷ 6 ∷ 0 ∷ 10 ∷ 0 ∷ 5 ∷ []) ++ (0x53 ∷ 0x47 ∷ 0b1 ∷ [])
    ++ (0x47 ∷ 0x52 ∷ 3 ∷ 0 ∷ 5 ∷ 0 ∷ 8 ∷ []) ++ (0x41 ∷ 0x52 ∷ 0 ∷ 0 ∷ 0 ∷ 2 ∷ []) ++ (0x41 ∷ 0x52 ∷ 0 ∷ 0 ∷ 0 ∷ 1 ∷ [])
    ++ entry_of 0 0 ++ entry_of 1 1 ++ entry_of 2 2 ++ (0x5A ∷ 0x5A ∷ [])

-- P2: arrivals high 3
abbrev pub paper_two : List ℕ
paper_two = paper_l 3 10 3 (entry_of 0 0 ++ entry_of 1 1 ++ entry_of 2 2)

-- P3: rank of entry 1 set to 0
abbrev pub paper_three : List ℕ
paper_three = paper_l 3 10 2 (entry_of 0 0 ++ entry_of 1 0 ++ entry_of 2 2)

-- P4: without its second entry, HD saying 2
abbrev pub paper_four : List ℕ
paper_four = paper_l 2 10 2 (entry_of 0 0 ++ entry_of 2 2)

-- P5: safe 9
abbrev pub paper_five : List ℕ
paper_five = paper_l 3 9 2 (entry_of 0 0 ++ entry_of 1 1 ++ entry_of 2 2)

-- a link of cap 40 and flow 10 from junction tail to junction head, safe 40, goal 40
abbrev pub link40 : ℕ → ℕ → List ℕ
link40 tail head = 0x4C ∷ 0x4B ∷ tail ∷ head ∷ 0 ∷ 40 ∷ 0 ∷ 10 ∷ 0 ∷ 40 ∷ 0 ∷ 40 ∷ []

abbrev pub turn_of : ℕ → ℕ → ℕ → ℕ → List ℕ
turn_of from to share pull = 0x54 ∷ 0x4E ∷ from ∷ to ∷ share ∷ 0 ∷ pull ∷ []

-- in H2: the same with a start flow; what a mode remembers; the signal of link 0 green, and that of no link
abbrev pub start_link : List ℕ → ℕ → List ℕ
start_link link start = link ++ (0 ∷ start ∷ [])

abbrev pub mode_after : ℕ → List ℕ
mode_after signal = 0x4D ∷ 0x44 ∷ signal ∷ []

abbrev pub green_then_red : List ℕ
green_then_red = (0x53 ∷ 0x47 ∷ 0b01 ∷ []) ++ (0x53 ∷ 0x47 ∷ 0b00 ∷ [])

-- one interval for the whole link
abbrev pub whole : List ℕ
whole = 0x47 ∷ 0x52 ∷ 1 ∷ []

-- no arrivals on n links
abbrev pub no_arrivals : ℕ → List ℕ
no_arrivals n = 0x41 ∷ 0x52 ∷ replicate n 0

-- the one entry of a certificate with one cell: rank 0, since safe and goal are cap; then the end
abbrev pub one_entry : List ℕ
one_entry = (0x45 ∷ 0x4E ∷ 0 ∷ 0 ∷ 0 ∷ 0 ∷ 0 ∷ 0 ∷ 0 ∷ []) ++ (0x5A ∷ 0x5A ∷ [])

-- P6, P8: link 0 green, a turn to red link 1, of the given share and pull
abbrev pub two_links : ℕ → ℕ → List ℕ
two_links share pull =
    (0x48 ∷ 0x44 ∷ 2 ∷ 1 ∷ 1 ∷ 1 ∷ 1 ∷ 0 ∷ 1 ∷ []) ++ link40 0 1 ++ link40 1 2 ++ turn_of 0 1 share pull
    ++ (0x53 ∷ 0x47 ∷ 0b01 ∷ []) ++ whole ++ whole ++ no_arrivals 8 ++ one_entry

-- P7: one red link of cap 10, arrivals of 2
abbrev pub red_link : List ℕ
red_link =
    (0x48 ∷ 0x44 ∷ 1 ∷ 0 ∷ 1 ∷ 1 ∷ 1 ∷ 0 ∷ 1 ∷ [])
    ++ (0x4C ∷ 0x4B ∷ 0 ∷ 1 ∷ 0 ∷ 10 ∷ 0 ∷ 10 ∷ 0 ∷ 10 ∷ 0 ∷ 10 ∷ [])
    ++ (0x53 ∷ 0x47 ∷ 0b0 ∷ []) ++ whole ++ (0x41 ∷ 0x52 ∷ 0 ∷ 2 ∷ 0 ∷ 2 ∷ []) ++ one_entry

-- P9: links 0 and 1, each with a turn of share 100 to link 2, of the given pulls, under the signal of the given byte; P9 has both green
abbrev pub two_in_under : ℕ → ℕ → ℕ → List ℕ
two_in_under green first second =
    (0x48 ∷ 0x44 ∷ 3 ∷ 2 ∷ 1 ∷ 1 ∷ 1 ∷ 0 ∷ 1 ∷ []) ++ link40 0 1 ++ link40 0 1 ++ link40 1 2
    ++ turn_of 0 2 100 first ++ turn_of 1 2 100 second
    ++ (0x53 ∷ 0x47 ∷ green ∷ []) ++ whole ++ whole ++ whole ++ no_arrivals 12 ++ one_entry

abbrev pub two_in : ℕ → ℕ → List ℕ
two_in first second = two_in_under 0b011 first second

-- P11: link 0 green, turns to red links 1 and 2, of the given shares; P11 has 50 and 50. Cell 9 of 18 takes 10 to 11 of link 0, 20 to 21 of link 1
-- and 20 to 40 of link 2
abbrev pub fork_of : ℕ → ℕ → List ℕ
fork_of first second =
    (0x48 ∷ 0x44 ∷ 3 ∷ 2 ∷ 1 ∷ 1 ∷ 1 ∷ 0 ∷ 1 ∷ []) ++ link40 0 1 ++ link40 1 2 ++ link40 1 3
    ++ turn_of 0 1 first 34 ++ turn_of 0 2 second 34
    ++ (0x53 ∷ 0x47 ∷ 0b001 ∷ [])
    ++ (0x47 ∷ 0x52 ∷ 3 ∷ 0 ∷ 10 ∷ 0 ∷ 11 ∷ []) ++ (0x47 ∷ 0x52 ∷ 3 ∷ 0 ∷ 20 ∷ 0 ∷ 21 ∷ []) ++ (0x47 ∷ 0x52 ∷ 2 ∷ 0 ∷ 20 ∷ [])
    ++ no_arrivals 12 ++ one_entry

abbrev pub fork : List ℕ
fork = fork_of 50 50

-- P6 as H2 with start flows of 4: signal 1 has no green link
abbrev pub two_links_start : List ℕ
two_links_start =
    (0x48 ∷ 0x32 ∷ 2 ∷ 1 ∷ 2 ∷ 1 ∷ 1 ∷ 0 ∷ 1 ∷ []) ++ start_link (link40 0 1) 4 ++ start_link (link40 1 2) 4 ++ turn_of 0 1 33 34
    ++ green_then_red ++ mode_after 0 ++ whole ++ whole ++ no_arrivals 8 ++ one_entry

-- one link of cap 10 and flow 6, safe 10, goal 5, and three modes; all entries show signal 0
abbrev pub one_link : List ℕ
one_link = 0x4C ∷ 0x4B ∷ 0 ∷ 1 ∷ 0 ∷ 10 ∷ 0 ∷ 6 ∷ 0 ∷ 10 ∷ 0 ∷ 5 ∷ []

abbrev pub green_entry : ℕ → ℕ → ℕ → ℕ → List ℕ
green_entry cell mode next rank = 0x45 ∷ 0x4E ∷ 0 ∷ cell ∷ mode ∷ 0 ∷ next ∷ 0 ∷ rank ∷ []

abbrev pub grid_and_entries : List ℕ
grid_and_entries =
    (0x47 ∷ 0x52 ∷ 3 ∷ 0 ∷ 5 ∷ 0 ∷ 8 ∷ []) ++ (0x41 ∷ 0x52 ∷ 0 ∷ 0 ∷ 0 ∷ 2 ∷ [])
    ++ green_entry 0 0 0 0 ++ green_entry 1 0 0 1 ++ green_entry 1 2 0 1 ++ green_entry 2 0 0 2 ++ green_entry 2 1 2 3 ++ green_entry 2 2 0 2
    ++ (0x5A ∷ 0x5A ∷ [])

-- start: H2 with start flow 2; mode 1 remembers the red signal
abbrev pub paper_start : List ℕ
paper_start =
    (0x48 ∷ 0x32 ∷ 1 ∷ 0 ∷ 2 ∷ 3 ∷ 1 ∷ 0 ∷ 6 ∷ []) ++ start_link one_link 2 ++ green_then_red ++ mode_after 0 ++ mode_after 1 ++ mode_after 0
    ++ grid_and_entries

-- the same as HD
abbrev pub paper_start_plain : List ℕ
paper_start_plain = (0x48 ∷ 0x44 ∷ 1 ∷ 0 ∷ 2 ∷ 3 ∷ 1 ∷ 0 ∷ 6 ∷ []) ++ one_link ++ green_then_red ++ grid_and_entries

-- turns: H3, one link with start flow 6, two modes that take turns with goals 5 and 8, by the next mode of its first entry
abbrev pub goal_mode : ℕ → ℕ → List ℕ
goal_mode number goal = 0x4D ∷ 0x44 ∷ 0 ∷ number ∷ 0 ∷ goal ∷ []

abbrev pub paper_turns : ℕ → List ℕ
paper_turns next =
    (0x48 ∷ 0x33 ∷ 1 ∷ 0 ∷ 1 ∷ 2 ∷ 1 ∷ 0 ∷ 6 ∷ []) ++ start_link one_link 6 ++ (0x53 ∷ 0x47 ∷ 0b1 ∷ []) ++ goal_mode 0 5 ++ goal_mode 1 8
    ++ (0x47 ∷ 0x52 ∷ 3 ∷ 0 ∷ 5 ∷ 0 ∷ 8 ∷ []) ++ (0x41 ∷ 0x52 ∷ 0 ∷ 0 ∷ 0 ∷ 2 ∷ [])
    ++ green_entry 0 0 next 0 ++ green_entry 0 1 0 0 ++ green_entry 1 0 0 1 ++ green_entry 1 1 0 0 ++ green_entry 2 0 0 2 ++ green_entry 2 1 1 1
    ++ (0x5A ∷ 0x5A ∷ [])

-- three modes that take turns with goals 5, 8 and 10: the next modes of rank 0 are given for modes 0, 1 and 2
abbrev pub paper_three_goals : ℕ → ℕ → ℕ → List ℕ
paper_three_goals a b c =
    (0x48 ∷ 0x33 ∷ 1 ∷ 0 ∷ 1 ∷ 3 ∷ 1 ∷ 0 ∷ 9 ∷ []) ++ start_link one_link 6 ++ (0x53 ∷ 0x47 ∷ 0b1 ∷ []) ++ goal_mode 0 5 ++ goal_mode 1 8 ++ goal_mode 2 10
    ++ (0x47 ∷ 0x52 ∷ 3 ∷ 0 ∷ 5 ∷ 0 ∷ 8 ∷ []) ++ (0x41 ∷ 0x52 ∷ 0 ∷ 0 ∷ 0 ∷ 2 ∷ [])
    ++ green_entry 0 0 a 0 ++ green_entry 0 1 b 0 ++ green_entry 0 2 c 0
    ++ green_entry 1 0 0 1 ++ green_entry 1 1 b 0 ++ green_entry 1 2 c 0
    ++ green_entry 2 0 0 2 ++ green_entry 2 1 1 1 ++ green_entry 2 2 c 0
    ++ (0x5A ∷ 0x5A ∷ [])

-- P7 with two modes, one entry each
abbrev pub red_link_twice : List ℕ
red_link_twice =
    (0x48 ∷ 0x44 ∷ 1 ∷ 0 ∷ 1 ∷ 2 ∷ 1 ∷ 0 ∷ 2 ∷ [])
    ++ (0x4C ∷ 0x4B ∷ 0 ∷ 1 ∷ 0 ∷ 10 ∷ 0 ∷ 10 ∷ 0 ∷ 10 ∷ 0 ∷ 10 ∷ [])
    ++ (0x53 ∷ 0x47 ∷ 0b0 ∷ []) ++ whole ++ (0x41 ∷ 0x52 ∷ 0 ∷ 2 ∷ 0 ∷ 2 ∷ []) ++ green_entry 0 0 0 0 ++ green_entry 0 1 1 0 ++ (0x5A ∷ 0x5A ∷ [])

-- the worked example of README: two links of cap 40 and flow 12 in a row, safe 30, goal 10, each cut at 10, 20 and 30
abbrev pub example_link : ℕ → ℕ → List ℕ
example_link tail head = 0x4C ∷ 0x4B ∷ tail ∷ head ∷ 0 ∷ 40 ∷ 0 ∷ 12 ∷ 0 ∷ 30 ∷ 0 ∷ 10 ∷ []

abbrev pub example_entry : ℕ → ℕ → ℕ → List ℕ
example_entry cell signal rank = 0x45 ∷ 0x4E ∷ 0 ∷ cell ∷ 0 ∷ signal ∷ 0 ∷ 0 ∷ rank ∷ []

abbrev pub example_grid : List ℕ
example_grid = 0x47 ∷ 0x52 ∷ 4 ∷ 0 ∷ 10 ∷ 0 ∷ 20 ∷ 0 ∷ 30 ∷ []

abbrev pub two_junctions : List ℕ
two_junctions =
    (0x48 ∷ 0x44 ∷ 2 ∷ 1 ∷ 2 ∷ 1 ∷ 1 ∷ 0 ∷ 9 ∷ []) ++ example_link 0 1 ++ example_link 1 2 ++ turn_of 0 1 50 150
    ++ (0x53 ∷ 0x47 ∷ 0b11 ∷ []) ++ (0x53 ∷ 0x47 ∷ 0b10 ∷ []) ++ example_grid ++ example_grid
    ++ (0x41 ∷ 0x52 ∷ 0 ∷ 0 ∷ 0 ∷ 1 ∷ 0 ∷ 0 ∷ 0 ∷ 1 ∷ [])
    ++ example_entry 0 0 0 ++ example_entry 1 1 2 ++ example_entry 2 1 4 ++ example_entry 4 0 1 ++ example_entry 5 1 3 ++ example_entry 6 1 5
    ++ example_entry 8 0 2 ++ example_entry 9 0 4 ++ example_entry 10 0 6 ++ (0x5A ∷ 0x5A ∷ [])

-- its poll: 3 vehicles and fault 07 on link 0, a reading of the given first two bytes and 12.5 on link 1
abbrev pub queue_bytes : ℕ → ℕ → List ℕ
queue_bytes high next = 0 ∷ high ∷ next ∷ 0 ∷ 0 ∷ 0 ∷ 0 ∷ 0 ∷ 0 ∷ []

abbrev pub example_poll : ℕ → ℕ → List ℕ
example_poll high next = queue_bytes 0x40 0x08 ++ (1 ∷ 0x07 ∷ 0 ∷ 0 ∷ 0 ∷ 0 ∷ 0 ∷ 0 ∷ 0 ∷ []) ++ queue_bytes high next ++ queue_bytes 0x40 0x29
