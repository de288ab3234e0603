-- The two conditions that make the flow rule monotone in each queue (source document 004, Lemma 2), refusals 10 and 11.
use Rattle.std.specs.Prelude.{ℕ, ◌*◌, ◌-◌, List, Bool, leb, eqb}
use Rattle.certificate.specs.declared.Report.{Report}
use Rattle.certificate.specs.Loops.{pick, sum_to}
use Rattle.certificate.specs.Checks.{report_with, refusal, fine, need, or_else, first_bad}
use Rattle.certificate.specs.Layout.{max_pull_sum, links_of, turns_of, signals_of, cap_of, flow_of, from_of, to_of, pull_of}
use Rattle.certificate.specs.Reading.{reading_of}
use Rattle.network.specs.Network.{Network, network_of, is_green}

-- the sum of share × pull over the turns into link l from green links
unfoldable pub pull_sum : Network → (ℕ → Bool) → ℕ → ℕ
pull_sum N green l =
    sum_to N.turns (λ t. pick (eqb (N.to t) l) (pick (green (N.from t)) (N.share t * N.pull t) 0) 0)

-- 10: for each signal and link, that sum is at most 10,000. A = signal, B = link; signals, then links ascending
unfoldable pub pull_fault : List ℕ → ℕ → ℕ → Report
pull_fault s g l = need (leb (pull_sum (network_of s) (is_green s g) l) max_pull_sum) (report_with 10 g l 0) fine

unfoldable pub signal_pulls_fault : List ℕ → ℕ → Report
signal_pulls_fault s g = first_bad (links_of s) (pull_fault s g)

unfoldable pub pulls_fault : List ℕ → Report
pulls_fault s = first_bad (signals_of s) (signal_pulls_fault s)

-- 11: for each turn, 100 × flow of from is at most pull × (cap − flow) of to. A = turn
unfoldable pub room_ok : List ℕ → ℕ → Bool
room_ok s t = leb (100 * flow_of s (from_of s t)) (pull_of s t * (cap_of s (to_of s t) - flow_of s (to_of s t)))

unfoldable pub room_fault : List ℕ → ℕ → Report
room_fault s t = need (room_ok s t) (refusal 11 t) fine

unfoldable pub rooms_fault : List ℕ → Report
rooms_fault s = first_bad (turns_of s) (room_fault s)

-- all tests that come before 12: reading, then 10, then 11
unfoldable pub screening_of : List ℕ → Report
screening_of s = or_else (reading_of s) (or_else (pulls_fault s) (rooms_fault s))
