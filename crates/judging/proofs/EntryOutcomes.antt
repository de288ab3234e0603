-- What the loops of judging answer: an entry that holds is passed, and the first failing place is the answer. Assumes nothing.
use Prim.Native.Nat.{ℕ, ◌+◌, ◌<◌}
use mathlib.Core.List.{List}
use mathlib.Core.Bool.{Bool, true, false, cond}
use mathlib.Core.Path.{◌≡◌, refl, ap, ◌∙◌}
use mathlib.Core.Logic.{inl, inr}
use native.Mathlib.Nat.{add-zero, zero-add}
use native.Mathlib.Omega.{arith}
use Rattle.certificate.specs.declared.Report.{Report}
use Rattle.certificate.specs.Loops.{pick}
use Rattle.certificate.specs.Checks.{report_with, fine, or_else}
use Rattle.certificate.specs.Layout.{cells_of, boxes_of, entries_of, next_mode_of}
use Rattle.certificate.specs.Facts.{Readable}
use Rattle.certificate.proofs.Tests.{need_pass, need_fail, or_next, or_stop}
use Rattle.judging.specs.EntryTests.{standing_fault, follows, successor_fault, count_after, look_fault, cell_round, box_round, entry_round, accepted, judging_from}
use Rattle.judging.specs.Conditions.{SafeCell, RankFits, Follows, ListedNext, LowerNext, SuccessorHolds, EntryHolds, looked, looked_cells, looked_boxes, looked_entries}
use Rattle.judging.specs.Laws.{ReachesCell}
use Rattle.judging.proofs.Deciding.{tells_false}
use Rattle.judging.proofs.Looping.{Passes, Stops, loop_passes, loop_stops}
use Rattle.judging.proofs.Entries.{safe_tells, rank_tells, listed_tells, lower_tells}

module _ (s : List ℕ) (readable : Readable s) where
  -- a successor that holds, one that is not listed, and one that is not lower
  holds_fine : (e d n : ℕ) → SuccessorHolds s e d → successor_fault s e d n ≡ fine
  unfolding successor_fault
  holds_fine e d n (listed, lower) =
      need_pass _ _ _ ((listed_tells s d (next_mode_of s e)).1 listed)
      ∙ need_pass _ _ _ ((lower_tells s e d readable listed).1 lower)

  unlisted_fault : (e d n : ℕ) → (ListedNext s e d → ⊥) → successor_fault s e d n ≡ report_with 14 e d n
  unfolding successor_fault
  unlisted_fault e d n no-entry = need_fail _ _ _ (tells_false _ (listed_tells s d (next_mode_of s e)) no-entry)

  higher_fault : (e d n : ℕ) → ListedNext s e d → (LowerNext s e d → ⊥) → successor_fault s e d n ≡ report_with 15 e d n
  unfolding successor_fault
  higher_fault e d n listed not_lower =
      need_pass _ _ _ ((listed_tells s d (next_mode_of s e)).1 listed)
      ∙ need_fail _ _ _ (tells_false _ (lower_tells s e d readable listed) not_lower)

  -- a cell that is no successor, or one that holds, is passed
  cell_passes : (e b d : ℕ) → (Follows s e b d → SuccessorHolds s e d) → Passes (cell_round s e b) d (looked s e b d)
  unfolding cell_round look_fault count_after follows
  cell_passes e b d h n next = go _ refl
    where
      go : (q : Bool) → follows s e b d ≡ q → or_else (cond q (successor_fault s e d (n + 1)) fine) (next (pick q (n + 1) n)) ≡ next (n + pick q 1 0)
      go true q = rw (holds_fine e d (n + 1) (h q)) (or_next fine _ refl)
      go false q = or_next fine _ refl ∙ rw add-zero

  -- a successor whose fault is a refusal stops the loop
  cell_stops : (e b d : ℕ) (r : ℕ → Report) → Follows s e b d → ((n : ℕ) → successor_fault s e d n ≡ r n) → ((n : ℕ) → (r n).number ≡ 0 → ⊥)
      → Stops (cell_round s e b) d (λ n. r (n + 1))
  unfolding cell_round look_fault follows
  cell_stops e b d r q fault bad n next = rw (q, fault (n + 1)) (or_stop (r (n + 1)) _ (bad (n + 1)))

  -- a box whose every successor holds is passed; the first that fails stops it
  box_passes : (e b : ℕ) → ((d : ℕ) → d < cells_of s → Follows s e b d → SuccessorHolds s e d) → Passes (box_round s e) b (looked_cells s e b (cells_of s))
  unfolding box_round
  box_passes e b h = loop_passes (cell_round s e b) (looked s e b) (cells_of s) (λ d lt. cell_passes e b d (h d lt))

  -- an entry that is safe and whose rank fits stands
  stands : (e n : ℕ) → SafeCell s e → RankFits s e → standing_fault s e n ≡ fine
  unfolding standing_fault
  stands e n safe rank = need_pass _ _ _ ((safe_tells s e).1 safe) ∙ need_pass _ _ _ ((rank_tells s e).1 rank)

  entry_passes : (e : ℕ) → EntryHolds s e → Passes (entry_round s) e (looked_boxes s e (boxes_of s))
  unfolding entry_round
  entry_passes e h n next =
      rw (stands e n h.safe h.rank) (or_next fine _ refl)
      ∙ loop_passes (box_round s e) (λ b. looked_cells s e b (cells_of s)) (boxes_of s) (λ b lb. box_passes e b (λ d ld. h.successors b d lb ld)) n next

  -- an entry that fails for its cell, for its rank, and at a successor
  pub unsafe_stops : (e : ℕ) → (SafeCell s e → ⊥) → Stops (entry_round s) e (report_with 12 e 0)
  unfolding entry_round standing_fault
  unsafe_stops e bad n next = rw (need_fail _ _ _ (tells_false _ (safe_tells s e) bad)) (or_stop (report_with 12 e 0 n) _ (λ z. omega arith))

  pub rank_stops : (e : ℕ) → SafeCell s e → (RankFits s e → ⊥) → Stops (entry_round s) e (report_with 13 e 0)
  unfolding entry_round standing_fault
  rank_stops e safe bad n next =
      rw (need_pass _ _ _ ((safe_tells s e).1 safe), need_fail _ _ _ (tells_false _ (rank_tells s e) bad)) (or_stop (report_with 13 e 0 n) _ (λ z. omega arith))

  successor_stops : (e d k : ℕ) (r : ℕ → Report) (c : ReachesCell s e d k) → ((n : ℕ) → successor_fault s e d n ≡ r n) → ((n : ℕ) → (r n).number ≡ 0 → ⊥)
      → Stops (entry_round s) e (λ n. r (n + looked_boxes s e c.box + looked_cells s e c.box d + 1))
  unfolding entry_round box_round
  successor_stops e d k r c fault bad n next =
      rw (stands e n c.safe c.rank) (or_next fine _ refl)
      ∙ loop_stops (box_round s e) (λ b. looked_cells s e b (cells_of s)) (boxes_of s) c.box (λ i. r (i + looked_cells s e c.box d + 1)) c.box_exists
      (λ b lb. box_passes e b (λ i li. c.earlier b i (omega (arith, c.box_exists)) li (inl lb)))
      (loop_stops (cell_round s e c.box) (looked s e c.box) (cells_of s) d (λ i. r (i + 1)) c.cell
      (λ i li. cell_passes e c.box i (c.earlier c.box i c.box_exists (omega (arith, c.cell)) (inr (refl, li))))
      (cell_stops e c.box d r c.follows fault bad))
      n next

  -- judging accepts where every entry holds, and answers at the first entry that stops
  pub judged_whole : ((e : ℕ) → e < entries_of s → EntryHolds s e) → judging_from s 0 0 ≡ report_with 0 0 0 (looked_entries s (entries_of s))
  unfolding judging_from
  judged_whole h =
      loop_passes (entry_round s) (λ e. looked_boxes s e (boxes_of s)) (entries_of s) (λ e lt. entry_passes e (h e lt)) 0 accepted ∙ ap (report_with 0 0 0) (zero-add _)

  pub judged_stops : (e : ℕ) (r : ℕ → Report) → e < entries_of s → ((f : ℕ) → f < e → EntryHolds s f) → Stops (entry_round s) e r → judging_from s 0 0 ≡ r (looked_entries s e)
  unfolding judging_from
  judged_stops e r lt h stop =
      loop_stops (entry_round s) (λ k. looked_boxes s k (boxes_of s)) (entries_of s) e r lt (λ k lk. entry_passes k (h k lk)) stop 0 accepted ∙ ap r (zero-add _)

  judged_cell : (e d n : ℕ) (r : ℕ → Report) → ReachesCell s e d n → ((i : ℕ) → successor_fault s e d i ≡ r i) → ((i : ℕ) → (r i).number ≡ 0 → ⊥) → judging_from s 0 0 ≡ r n
  judged_cell e d n r c fault bad =
      judged_stops e _ c.reaches.entry c.reaches.before (successor_stops e d n r c fault bad) ∙ rw c.count

  pub judged_unlisted : (e d n : ℕ) → ReachesCell s e d n → (ListedNext s e d → ⊥) → judging_from s 0 0 ≡ report_with 14 e d n
  judged_unlisted e d n c bad = judged_cell e d n (report_with 14 e d) c (λ i. unlisted_fault e d i bad) (λ i z. omega arith)

  pub judged_higher : (e d n : ℕ) → ReachesCell s e d n → ListedNext s e d → (LowerNext s e d → ⊥) → judging_from s 0 0 ≡ report_with 15 e d n
  judged_higher e d n c listed bad = judged_cell e d n (report_with 15 e d) c (λ i. higher_fault e d i listed bad) (λ i z. omega arith)
