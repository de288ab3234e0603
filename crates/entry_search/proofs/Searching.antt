-- The nested search over boxes and cells, turn by turn, in the form in which a proof has the facts. Assumes nothing.
use Prim.Native.Nat.{ℕ, ◌+◌, ◌≤◌, ◌<◌}
use mathlib.Core.List.{List}
use mathlib.Core.Bool.{true, false}
use mathlib.Core.Path.{◌≡◌, refl, sym, ap, ◌∙◌}
use Rattle.certificate.specs.declared.Report.{Report}
use Rattle.certificate.specs.Loops.{loop_from}
use Rattle.certificate.specs.Checks.{fine, or_else}
use Rattle.certificate.specs.Layout.{cells_of, boxes_of}
use Rattle.certificate.proofs.Tests.{or_next}
use Rattle.certificate.proofs.Loops.{loop_round, loop_end}
use Rattle.octets.specs.declared.refusals.Refused.{Refused}
use Rattle.octets.specs.Refusals.{report_of}
use Rattle.octets.proofs.Outcomes.{refuses, stands}
use Rattle.judging.specs.EntryTests.{follows, successor_fault, count_after, look_fault, cell_round, box_round, accepted}
use Rattle.entry_search.specs.Search.{box_alone, boxes_from}
use Rattle.entry_search.proofs.Regular.{after, after_pass, after_stop, box_regular}

module _ (s : List ℕ) (e b n : ℕ) where
  goes_on : (k : ℕ) (next : ℕ → Report) → accepted k ≡ box_alone s e b n → box_round s e b n next ≡ next k
  unfolding box_alone
  goes_on k next p = box_regular s e b n next ∙ ap (λ (q : Report). after q next) (sym p) ∙ after_pass (accepted k) next refl

  stops_there : (r : Refused) (next : ℕ → Report) → report_of r ≡ box_alone s e b n → box_round s e b n next ≡ report_of r
  unfolding box_alone
  stops_there r next p = box_regular s e b n next ∙ ap (λ (q : Report). after q next) (sym p) ∙ after_stop (report_of r) next (refuses r.why)

module _ (s : List ℕ) (e b n : ℕ) {t : Report} where
  -- a box that is passed: the search goes on from the count after it. A refusal in it is the answer
  pub next_box : (k : ℕ) → b < boxes_of s → accepted k ≡ box_alone s e b n → boxes_from s e b n ≡ t → boxes_from s e (b + 1) k ≡ t
  unfolding boxes_from
  next_box k h p q = sym (goes_on s e b n k _ p) ∙ sym (loop_round (box_round s e) accepted (boxes_of s) b n h) ∙ q

  pub stop_box : (r : Refused) → b < boxes_of s → report_of r ≡ box_alone s e b n → boxes_from s e b n ≡ t → report_of r ≡ t
  unfolding boxes_from
  stop_box r h p q = sym (stops_there s e b n r _ p) ∙ sym (loop_round (box_round s e) accepted (boxes_of s) b n h) ∙ q

  -- after the last box
  pub end_boxes : boxes_of s ≤ b → boxes_from s e b n ≡ t → accepted n ≡ t
  unfolding boxes_from
  end_boxes h q = sym (loop_end (box_round s e) accepted (boxes_of s) b n h) ∙ q

-- the search of a box from cell d on
unfoldable pub cells_alone : List ℕ → ℕ → ℕ → ℕ → ℕ → Report
cells_alone s e b d n = loop_from (cell_round s e b) accepted (cells_of s) d n

pub first_cell : (s : List ℕ) (e b n : ℕ) → cells_alone s e b 0 n ≡ box_alone s e b n
unfolding cells_alone box_alone box_round
first_cell s e b n = refl

module _ (s : List ℕ) (e b d n : ℕ) {t : Report} where
  turn : d < cells_of s → cells_alone s e b d n ≡ t → cell_round s e b d n (cells_alone s e b (d + 1)) ≡ t
  unfolding cells_alone
  turn h p = sym (loop_round (cell_round s e b) accepted (cells_of s) d n h) ∙ p

  -- a cell that does not follow is passed over
  pub pass_over : d < cells_of s → follows s e b d ≡ false → cells_alone s e b d n ≡ t → cells_alone s e b (d + 1) n ≡ t
  unfolding cell_round look_fault count_after
  pass_over h f p = sym (or_next fine _ refl) ∙ (rw f at (turn h p))

  look : d < cells_of s → follows s e b d ≡ true → cells_alone s e b d n ≡ t
      → or_else (successor_fault s e d (n + 1)) (cells_alone s e b (d + 1) (n + 1)) ≡ t
  unfolding cell_round look_fault count_after
  look h f p = rw f at (turn h p)

  -- a successor that holds: the search goes on, with one more on the count
  pub holds : d < cells_of s → follows s e b d ≡ true → fine ≡ successor_fault s e d (n + 1)
      → cells_alone s e b d n ≡ t → cells_alone s e b (d + 1) (n + 1) ≡ t
  holds h f z p = sym (or_next (successor_fault s e d (n + 1)) _ (sym (ap (λ (r : Report). r.number) z))) ∙ look h f p

  -- one that does not: its refusal, counted, is the answer
  pub stops : (r : Refused) → d < cells_of s → follows s e b d ≡ true → report_of r ≡ successor_fault s e d (n + 1)
      → cells_alone s e b d n ≡ t → report_of r ≡ t
  stops r h f z p = stands r _ (cells_alone s e b (d + 1) (n + 1)) z ∙ look h f p

  -- after the last cell
  pub end_cells : cells_of s ≤ d → cells_alone s e b d n ≡ t → accepted n ≡ t
  unfolding cells_alone
  end_cells h p = sym (loop_end (cell_round s e b) accepted (cells_of s) d n h) ∙ p
