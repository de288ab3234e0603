-- Comparing the upper edges of a cell with a limit of each link, one link after another, and the tests 12 and 13. Assumes nothing.
use Prim.Native.Nat.{ℕ, ◌+◌, ◌*◌, ◌≤◌, ◌<◌}
use mathlib.Core.List.{List}
use mathlib.Core.Bool.{Bool, true, false, not, cond, ◌&&◌, beq, and_assoc, and-true}
use mathlib.Core.Path.{◌≡◌, refl, sym, ap, ◌∙◌}
use lib.Dec.{eqb, leb}
use borrow.Author.Tests.{not-true, not-false}
use Rattle.certificate.proofs.Tests.{need_pass, need_fail}
use lib.ListN.{get_or}
use Rattle.certificate.specs.Octets.{u16_at}
use Rattle.certificate.specs.Loops.{every_from}
use Rattle.certificate.specs.Layout.{plain_mode_size, links_of, link_size, link_at, mode_size, mode_at, goal_for, cell_of, mode_of, rank_of}
use Rattle.certificate.proofs.Loops.{every_turn, every_end}
use Rattle.certificate.proofs.KindLaws.{one_goal_layout, other_size, plain_size}
use Rattle.grid.specs.Cells.{upper_of}
use Rattle.judging.specs.EntryTests.{is_goal, is_ranked, is_safe, standing_fault}
use Rattle.entry_standing.specs.declared.GoalRow.{GoalRow}
use Rattle.entry_standing.specs.Standing.{UpperEdges, GoalsIn}
use Rattle.entry_standing.specs.declared.Standing.{Standing}
use native.Mathlib.Omega.{arith}
use Rattle.certificate.specs.declared.Report.{Report}
use Rattle.certificate.specs.Checks.{report_with, fine, need}

-- the links from l on have their upper edges at most a limit
unfoldable pub edges_from : List ℕ → ℕ → (ℕ → ℕ) → ℕ → Bool
edges_from s e most l = every_from (links_of s) (λ k. leb (upper_of s (cell_of s e) k) (most k)) l

module _ (s : List ℕ) (e : ℕ) (most : ℕ → ℕ) (l : ℕ) (a t : Bool) where
  pub edges_more : (upper : List ℕ) (links r : ℕ) → UpperEdges s e upper → links ≡ links_of s → l < links → r ≡ most l
      → (a && edges_from s e most l) ≡ t → ((a && leb (get_or upper l 0) r) && edges_from s e most (l + 1)) ≡ t
  unfolding edges_from
  edges_more upper links r edges w lt q p =
      let inside : l < links_of s = rw w at lt in
      rw (edges l inside, q) (and_assoc a (leb (upper_of s (cell_of s e) l) (most l)) (edges_from s e most (l + 1)) ∙ ap (λ (b : Bool). a && b) (sym (every_turn (links_of s) l _ inside)) ∙ p)

  pub edges_end : (links : ℕ) → links ≡ links_of s → links ≤ l → (a && edges_from s e most l) ≡ t → a ≡ t
  unfolding edges_from
  edges_end links w ge p = sym (and-true a) ∙ sym (ap (λ (b : Bool). a && b) (every_end (links_of s) l _ (rw w at ge))) ∙ p

-- the goal of link l, read in the row
pub goal_in_row : (s : List ℕ) (e : ℕ) {row : GoalRow} (l : ℕ) {r : ℕ} → GoalsIn s e row → r ≡ u16_at s (row.first + row.apart * l) → r ≡ goal_for s (mode_of s e) l
goal_in_row s e l R p = p ∙ R.goal_is l

-- where the goals of the entry's mode stand: in H3 in the mode's record, else in those of the links
module _ (at : Standing) (e : ℕ) where
  abbrev s : List ℕ
  s = at.entries.bytes.now

  size_is : at.modes.size ≡ mode_size s
  size_is = rw at.same at at.modes.sized

  pub goals_in_mode : {mode o : ℕ} → (at.modes.size ≡ plain_mode_size → ⊥) → mode ≡ mode_of s e → o ≡ mode_at at.modes.bytes.now mode → o ≤ 300000
      → GoalsIn s e (record { first = o + 4; apart = 2 })
  unfolding goal_for
  goals_in_mode {mode} {o} other m here most =
      let turns = other_size s (λ same. other (size_is ∙ same)) in
      let place : o ≡ mode_at s (mode_of s e) = (rw at.same at here) ∙ rw m in
      record { first_most = omega arith; apart_most = omega arith; goal_is = λ l. let same : o + 4 + 2 * l ≡ mode_at s (mode_of s e) + (4 + 2 * l) = omega arith in rw (turns, same) }

  pub goals_in_links : {size : ℕ} → at.modes.size ≡ plain_mode_size → size ≡ link_size s → size ≤ 14 → GoalsIn s e (record { first = 19; apart = size })
  goals_in_links {size} same is most =
      let one = plain_size s (sym size_is ∙ same) in
      record {
        first_most = omega arith;
        apart_most = most;
        goal_is = λ l.
            let same : 19 + size * l ≡ link_at s l + 10 = rw is (omega arith) in
            ap (u16_at s) same ∙ sym ((one_goal_layout s one).goal (mode_of s e) l);
      }

-- the rank is 0 exactly at the goal
same_test : (z g : Bool) → beq z g ≡ cond z g (not g)
same_test true true = refl
same_test true false = refl
same_test false true = refl
same_test false false = refl

-- the tests 12 and 13, by what the code finds of the edges and of the rank
module _ (s : List ℕ) (e n : ℕ) {safe goal : Bool} {rank : ℕ} (safe-is : safe ≡ is_safe s e) (goal-is : goal ≡ is_goal s e) (rank-is : rank ≡ rank_of s e) where
  pub same_ranked : beq (eqb rank 0) goal ≡ is_ranked s e
  unfolding is_ranked
  same_ranked = rw (rank-is, goal-is) (same_test (eqb (rank_of s e) 0) (is_goal s e))

  pub above_safe : not safe ≡ true → report_with 12 e 0 n ≡ standing_fault s e n
  unfolding standing_fault
  above_safe h = sym (need_fail _ _ _ (sym safe-is ∙ not-true safe h))

  module _ (h : not safe ≡ false) where
    pub other_rank : not (beq (eqb rank 0) goal) ≡ true → report_with 13 e 0 n ≡ standing_fault s e n
    unfolding standing_fault
    other_rank k = sym (need_pass _ _ _ (sym safe-is ∙ not-false safe h) ∙ need_fail _ _ _ (sym same_ranked ∙ not-true _ k))

    pub no_fault : not (beq (eqb rank 0) goal) ≡ false → fine ≡ standing_fault s e n
    unfolding standing_fault
    no_fault k = sym (need_pass _ _ _ (sym safe-is ∙ not-false safe h) ∙ need_pass _ _ _ (sym same_ranked ∙ not-false _ k))

-- the count of an entry's standing is at most that before it
pub standing_count : (s : List ℕ) (e n : ℕ) (f : Report) → f ≡ standing_fault s e n → f.count ≤ n
unfolding standing_fault need
standing_count s e n f q = rw q (go (is_safe s e) (is_ranked s e))
  where
    go : (a b : Bool) → (need a (report_with 12 e 0 n) (need b (report_with 13 e 0 n) fine)).count ≤ n
    go true true = omega arith
    go true false = omega arith
    go false b = omega arith
