-- When a certificate is accepted. Entries are judged in order; within one: safe, rank against goal, then arrival boxes
-- ascending and successor cells ascending, each first for being listed, then for its rank. The count n goes along.
use Rattle.std.specs.Prelude.{ℕ, ◌+◌, List, Bool, not, ◌||◌, cond, eqb, leb, ltb}
use Rattle.certificate.specs.declared.Report.{Report}
use Rattle.certificate.specs.Loops.{pick, every, loop_from}
use Rattle.certificate.specs.Checks.{report_with, fine, need, or_else}
use Rattle.certificate.specs.Layout.{links_of, safe_of, goal_for, cells_of, boxes_of, entries_of, cell_of, mode_of, next_mode_of, rank_of}
use Rattle.network.specs.Network.{entry_limit}
use Rattle.grid.specs.Cells.{upper_of}
use Rattle.grid.specs.Successors.{is_successor}
use Rattle.judging.specs.Lookup.{entry_for, is_listed}

-- all upper edges of entry e's cell are at most safe
unfoldable pub is_safe : List ℕ → ℕ → Bool
is_safe s e = every (links_of s) (λ l. leb (upper_of s (cell_of s e) l) (safe_of s l))

-- all upper edges of entry e's cell are at most the goal of its mode
unfoldable pub is_goal : List ℕ → ℕ → Bool
is_goal s e = every (links_of s) (λ l. leb (upper_of s (cell_of s e) l) (goal_for s (mode_of s e) l))

-- the rank of entry e is 0 exactly when all upper edges are at most that goal
unfoldable pub is_ranked : List ℕ → ℕ → Bool
is_ranked s e = cond (eqb (rank_of s e) 0) (is_goal s e) (not (is_goal s e))

-- 12: cell not safe; 13: rank 0 without goal, or goal without rank 0. A = entry, count before it
unfoldable pub standing_fault : List ℕ → ℕ → ℕ → Report
standing_fault s e n = need (is_safe s e) (report_with 12 e 0 n) (need (is_ranked s e) (report_with 13 e 0 n) fine)

-- cell d is a successor of entry e's cell under its signal and arrival box b
unfoldable pub follows : List ℕ → ℕ → ℕ → ℕ → Bool
follows s e b d = is_successor s (entry_limit s e) b (cell_of s e) d

-- the rank of entry f is lower than that of entry e, where that is above 0
unfoldable pub is_lower : List ℕ → ℕ → ℕ → Bool
is_lower s e f = eqb (rank_of s e) 0 || ltb (rank_of s f) (rank_of s e)

-- 14: successor d not listed with the next mode; 15: its rank not lower. A = entry, B = cell, count with this one
unfoldable pub successor_fault : List ℕ → ℕ → ℕ → ℕ → Report
successor_fault s e d n =
    need (is_listed s d (next_mode_of s e)) (report_with 14 e d n)
    (need (is_lower s e (entry_for s d (next_mode_of s e))) (report_with 15 e d n)
    fine)

-- the number of successors looked up, after cell d
unfoldable pub count_after : List ℕ → ℕ → ℕ → ℕ → ℕ → ℕ
count_after s e b d n = pick (follows s e b d) (n + 1) n

-- a successor is looked up; any other cell is passed over
unfoldable pub look_fault : List ℕ → ℕ → ℕ → ℕ → ℕ → Report
look_fault s e b d n = cond (follows s e b d) (successor_fault s e d (n + 1)) fine

unfoldable pub cell_round : List ℕ → ℕ → ℕ → ℕ → ℕ → (ℕ → Report) → Report
cell_round s e b d n next = or_else (look_fault s e b d n) (next (count_after s e b d n))

unfoldable pub box_round : List ℕ → ℕ → ℕ → ℕ → (ℕ → Report) → Report
box_round s e b n next = loop_from (cell_round s e b) next (cells_of s) 0 n

unfoldable pub entry_round : List ℕ → ℕ → ℕ → (ℕ → Report) → Report
entry_round s e n next = or_else (standing_fault s e n) (loop_from (box_round s e) next (boxes_of s) 0 n)

-- accepted, with the number of successors looked up
abbrev pub accepted : ℕ → Report
accepted n = report_with 0 0 0 n

-- refusals 12 to 15, or accepted, from entry e on, where n successors were looked up before it
unfoldable pub judging_from : List ℕ → ℕ → ℕ → Report
judging_from s e n = loop_from (entry_round s) accepted (entries_of s) e n
