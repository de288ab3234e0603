-- Bench cases P1 to P11 as rows of one table, with rows for H2, H3, polls and listings: what is asked, and what is due.
use Rattle.std.specs.Prelude.{ℕ, ◌*◌, ◌≡◌, Bool, true, false, cond, get_or, eqb}
use Prim.Native.String as text
use mathlib.Core.List.{List, [], ◌∷◌, ◌++◌, Memᴰ}
use Rattle.certificate.specs.declared.Report.{Report}
use Rattle.certificate.specs.Checks.{report_with, refusal, fine}
use Rattle.certificate.specs.Layout.{cell_of}
use Rattle.network.specs.Network.{network_of, limit_of}
use Rattle.network.specs.Flow.{next}
use Rattle.network.specs.Conditions.{screening_of}
use Rattle.grid.specs.Successors.{image_low, image_high, image_over}
use Rattle.judging.specs.Verdict.{verdict_of}
use Rattle.judging.specs.Overflow.{overflows_of}
use Rattle.listing_text.specs.Listing.{listing_of}
use Rattle.listing_text.specs.Laws.{bytes_of}
use Rattle.controller.specs.declared.Shown.{Shown}
use Rattle.controller.specs.State.{holding}
use Rattle.controller.specs.Query.{entry_asked, query_of}
use Rattle.polls.specs.Poll.{entry_polled, poll_of}
use Rattle.bench_cases.specs.Papers.{paper_one, paper_two_boxes, paper_two, paper_three, paper_four, paper_five, two_links, red_link, two_in_under, two_in, fork_of, fork, two_links_start, paper_start, paper_start_plain, paper_turns, paper_three_goals, red_link_twice, two_junctions, example_poll}

-- what a row asks of a certificate
pub data Question : Type 0 where
  -- its verdict
  verdict : List ℕ → Question
  -- how many of its entries may turn arrivals away
  overflows : List ℕ → Question
  -- its tests before 12
  screening : List ℕ → Question
  -- the next queue of a link under signal 0: the signal shown before, the scale, the queues and the arrivals over it, the link
  next_queue : List ℕ → ℕ → ℕ → List ℕ → List ℕ → ℕ → Question
  -- a link's image under signal 0 and arrival box 0: the signal shown before, the cell, the link
  image : List ℕ → ℕ → ℕ → ℕ → Question
  -- a query of the state that holds it, in mode 0: the scale, the queues
  query : List ℕ → ℕ → List ℕ → Question
  -- a poll of the state that holds it, in mode 0: the poll's bytes
  poll : List ℕ → List ℕ → Question
  -- its listing
  listing : List ℕ → Question

-- what is due
pub data Answer : Type 0 where
  report : Report → Answer
  -- a next queue, over 10,000 times the scale
  queue : ℕ → Answer
  -- the ends of an image, in ten thousandths, and whether the next queue, not cut at cap, exceeds cap
  ends : ℕ → ℕ → Bool → Answer
  -- a number of entries
  entries : ℕ → Answer
  -- a query's or a poll's signal and green byte, and the cell of the entry that it goes by
  shows : ℕ → ℕ → ℕ → Answer
  -- a text
  prints : List ℕ → Answer

-- the bytes of lines, each ended by a line feed
unfoldable pub lines_of : List text.String → List ℕ
lines_of [] = []
lines_of (line ∷ more) = bytes_of line ++ (0x0A ∷ lines_of more)

-- what a query or a poll shows, with the cell c of the entry that it goes by; a refused one's report
abbrev pub shown_or_refusal : Shown → ℕ → Answer
shown_or_refusal shown c = cond (eqb shown.report.number 0) (shows shown.signal shown.green c) (report shown.report)

-- the definitions' answer
unfoldable pub answer : Question → Answer
answer (verdict s) = report (verdict_of s)
answer (overflows s) = entries (overflows_of s)
answer (screening s) = report (screening_of s)
answer (next_queue s before scale queues arrivals l) =
    queue (next (network_of s) (limit_of s before 0) scale (λ k. get_or queues k 0) (λ k. get_or arrivals k 0) l)
answer (image s before c l) =
    ends (image_low s (limit_of s before 0) 0 c l) (image_high s (limit_of s before 0) 0 c l) (image_over s (limit_of s before 0) 0 c l)
-- L has one signal for all cells, so the row also asks which entry the query goes by, and takes its cell
answer (query s scale queues) =
    shown_or_refusal (query_of (holding s) queues scale) (cell_of s (entry_asked (holding s) queues scale))
answer (listing s) = prints (listing_of s)
answer (poll s p) = shown_or_refusal (poll_of (holding s) p) (cell_of s (entry_polled (holding s) p))

pub record Row : Type 0 where
  pub asks : Question
  pub due : Answer

abbrev pub row : Question → Answer → Row
row q a = record { asks = q; due = a }

unfoldable pub rows : List Row
rows =
    -- P1 L: accepted, 4; no entry may turn arrivals away
    row (verdict paper_one) (report (report_with 0 0 0 4))
    ∷ row (overflows paper_one) (entries 0)
    -- its listing, as document 01 has it, with the number of request 4
    ∷ row (listing paper_one) (prints (lines_of (
    "links 1 turns 0 signals 1 modes 1 arrivals 1 entries 3" ∷ "0 0 0 0 0" ∷ "1 0 0 0 1" ∷ "2 0 0 0 2" ∷ "accepted 4 0" ∷ []
    )))
    -- with a second arrival box each successor is looked up again: 8
    ∷ row (verdict paper_two_boxes) (report (report_with 0 0 0 8))
    -- P2 15, entry 1, cell 1, count 3
    ∷ row (verdict paper_two) (report (report_with 15 1 1 3))
    ∷ row (listing paper_two) (prints (lines_of ("refused 15 1 1 3" ∷ [])))
    -- P3 13, entry 1, count 1
    ∷ row (verdict paper_three) (report (report_with 13 1 0 1))
    -- P4 14, entry 1, cell 1, count 3
    ∷ row (verdict paper_four) (report (report_with 14 1 1 3))
    -- P5 12, entry 2, count 2
    ∷ row (verdict paper_five) (report (report_with 12 2 0 2))
    -- P6 next 3.2 and 22.244
    ∷ row (next_queue (two_links 33 34) 0 1 (10 ∷ 20 ∷ []) (0 ∷ 0 ∷ []) 0) (queue 32000)
    ∷ row (next_queue (two_links 33 34) 0 1 (10 ∷ 20 ∷ []) (0 ∷ 0 ∷ []) 1) (queue 222440)
    -- P7 next 10, from 9.5 and 2 as 19 and 4 over scale 2
    ∷ row (next_queue red_link 0 2 (19 ∷ []) (4 ∷ []) 0) (queue (20000 * 10))
    -- its image is 2 to 10; 10 and 2 exceed cap where they are not cut, so its one entry may turn arrivals away
    ∷ row (image red_link 0 0 0) (ends 20000 100000 true)
    ∷ row (overflows red_link) (entries 1)
    -- with an entry more of the same cell, two entries
    ∷ row (verdict red_link_twice) (report (report_with 0 0 0 2))
    ∷ row (overflows red_link_twice) (entries 2)
    -- P8 pull 34 holds, 33 gives 11
    ∷ row (screening (two_links 33 34)) (report fine)
    ∷ row (screening (two_links 33 33)) (report (refusal 11 0))
    -- P9 pulls 50 and 50 hold, 51 and 50 give 10
    ∷ row (screening (two_in 50 50)) (report fine)
    ∷ row (screening (two_in 51 50)) (report (report_with 10 0 2 0))
    -- with link 1 red they hold; with both green 10 and 10 go into 16, so next 36
    ∷ row (screening (two_in_under 0b001 51 50)) (report fine)
    ∷ row (next_queue (two_in 50 50) 0 1 (10 ∷ 10 ∷ 16 ∷ []) (0 ∷ 0 ∷ 0 ∷ []) 2) (queue 360000)
    -- P10 over scale 2: queue 9 is cell 0, 10 cell 1, 20 cell 2, 21 gives 16; signal 0 has the green byte 01
    ∷ row (query paper_one 2 (9 ∷ [])) (shows 0 0x01 0)
    ∷ row (query paper_one 2 (10 ∷ [])) (shows 0 0x01 1)
    ∷ row (query paper_one 2 (20 ∷ [])) (shows 0 0x01 2)
    ∷ row (query paper_one 2 (21 ∷ [])) (report (refusal 16 0))
    -- P11 link 1's image is 20 to 24.23, below its cap of 40
    ∷ row (image fork 0 9 1) (ends 200000 242300 false)
    -- shares of 51 and 50 are 101: 5 at the second turn
    ∷ row (screening (fork_of 51 50)) (report (refusal 5 52))
    -- P6 as H2 with start 4: after the red signal 1 next 6 and 21.32, after the green one as above
    ∷ row (next_queue two_links_start 1 1 (10 ∷ 20 ∷ []) (0 ∷ 0 ∷ []) 0) (queue 60000)
    ∷ row (next_queue two_links_start 1 1 (10 ∷ 20 ∷ []) (0 ∷ 0 ∷ []) 1) (queue 213200)
    ∷ row (next_queue two_links_start 0 1 (10 ∷ 20 ∷ []) (0 ∷ 0 ∷ []) 0) (queue 32000)
    ∷ row (next_queue two_links_start 0 1 (10 ∷ 20 ∷ []) (0 ∷ 0 ∷ []) 1) (queue 222440)
    ∷ row (verdict two_links_start) (report (report_with 0 0 0 1))
    -- the image of cell 2 is 6 to 10 after the red signal, 2 to 6 after the green one; so start is accepted, and the same as HD is 14
    ∷ row (image paper_start 1 2 0) (ends 60000 100000 false)
    ∷ row (image paper_start 0 2 0) (ends 20000 60000 false)
    ∷ row (verdict paper_start) (report (report_with 0 0 0 9))
    ∷ row (overflows paper_start) (entries 0)
    ∷ row (listing paper_start) (prints (lines_of (
    "links 1 turns 0 signals 2 modes 3 arrivals 1 entries 6" ∷ "0 0 0 0 0" ∷ "1 0 0 0 1" ∷ "1 2 0 0 1" ∷ "2 0 0 0 2" ∷ "2 1 0 2 3" ∷ "2 2 0 0 2"
    ∷ "accepted 9 0" ∷ []
    )))
    ∷ row (verdict paper_start_plain) (report (report_with 14 4 0 6))
    -- turns: rank 0 passes to the other goal; an entry of rank 0 that stays with its own is 24
    ∷ row (verdict (paper_turns 1)) (report (report_with 0 0 0 8))
    ∷ row (overflows (paper_turns 1)) (entries 0)
    ∷ row (verdict (paper_turns 0)) (report (refusal 24 51))
    -- three goals: their numbers come in the order 0, 1, 2, and 0 again; the other way round is 24 at the first entry
    ∷ row (verdict (paper_three_goals 1 2 0)) (report (report_with 0 0 0 12))
    ∷ row (overflows (paper_three_goals 1 2 0)) (entries 0)
    ∷ row (verdict (paper_three_goals 2 0 1)) (report (refusal 24 57))
    -- the poll of README: 3 with a fault, and 9 beside 12.5, so cell 1; signal 1 has the green byte 02
    ∷ row (poll two_junctions (example_poll 0x40 0x22)) (shows 1 0x02 1)
    -- the first detector of link 1 not a number, then below zero by less than 2 to the −1022: 20
    ∷ row (poll two_junctions (example_poll 0x7F 0xF8)) (report (refusal 20 1))
    ∷ row (poll two_junctions (example_poll 0x80 0x01)) (report (refusal 20 1))
    -- 20 beside 12.5, so cell 2
    ∷ row (poll two_junctions (example_poll 0x40 0x34)) (shows 1 0x02 2)
    ∷ []

-- the theorem about all rows: every row's question is answered as due (proved in proofs/Rows.antt)
abbrev pub AllMet : Type 0
AllMet = (r : Row) → Memᴰ r rows → answer r.asks ≡ r.due
