-- What the tests of goal numbers and goals say (specs/Records.antt), in the plain terms of specs/Facts.antt, both ways. Assumes nothing.
use Prim.Native.Nat.{ℕ, zero, suc, ◌+◌, ◌≤◌, ◌<◌, max}
use mathlib.Core.Bool.{Bool, true, false, not, ◌||◌, false≢true}
use mathlib.Core.List.{List}
use mathlib.Core.Path.{◌≡◌, refl, sym, ◌∙◌}
use mathlib.Core.Logic.{◌↔◌, ⊎_elim}
use native.Mathlib.Nat.{eq-or-lt_of_le}
use native.Mathlib.Omega.{arith}
use borrow.Author.Tests.{eqb-true, eqb-false, eq-eqb, ne_eqb, leb-true, leb-false, le-leb}
use lib.Dec.{eqb, leb}
use Rattle.certificate.specs.Loops.{pick, greatest_to}
use Rattle.certificate.specs.Layout.{max_goal_number, links_of, modes_of, takes_turns, safe_of, goal_number_of, goal_for, greatest_goal, next_goal, mode_of, next_mode_of, rank_of}
use Rattle.certificate.specs.Records.{goals_safe, same_goals, goals_agree, is_used, no_gap, goals_ok, turns_on}
use Rattle.certificate.specs.Facts.{SameGoals, Used, NumbersUsed, TurnsOn}
use Rattle.certificate.specs.Due.{GoalsAgree}
use Rattle.certificate.specs.Laws.{GoalsInOrder}
use Rattle.certificate.proofs.Tests.{also_both, both_also}
use Rattle.certificate.proofs.Loops.{any_some, some_any, every-each, each-every}
use Rattle.certificate.proofs.KindLaws.{none_greater, one_goal_layout}

-- where a test holds, what follows
pub implies_says : (a b : Bool) → ((not a || b) ≡ true) ↔ (a ≡ true → b ≡ true)
implies_says true b = ((λ e _. e), (λ h. h refl))
implies_says false b = ((λ e k. absurd (false≢true k)), (λ h. refl))

-- the greatest of some numbers is one of them
pub attained : (n : ℕ) (f : ℕ → ℕ) → 1 ≤ n → (k : ℕ) × (k < n) × (f k ≡ greatest_to n f)
unfolding greatest_to
attained zero f h = absurd (omega arith)
attained (suc n) f h = go (leb (greatest_to n f) (f n)) refl (attained n f)
  where
    least : 0 ≤ n
    least = omega arith

    none : 0 ≡ n → greatest_to n f ≡ 0
    none e = rw (← e) refl

    go : (b : Bool) → leb (greatest_to n f) (f n) ≡ b → (1 ≤ n → (k : ℕ) × (k < n) × (f k ≡ greatest_to n f)) → (k : ℕ) × (k < suc n) × (f k ≡ max (greatest_to n f) (f n))
    go true e earlier = let above = leb-true (greatest_to n f) (f n) e in (n, omega arith, omega arith)
    go false e earlier =
        let above : f n < greatest_to n f = leb-false _ _ e in
        ⊎_elim
        (λ (first : 0 ≡ n). absurd (omega (arith, none first)))
        (λ some. let r = earlier some in (r.0, omega (arith, r.1), omega (arith, r.2)))
        (eq-or-lt_of_le least)

pub at_most_greatest : (n : ℕ) (f : ℕ → ℕ) (k : ℕ) → k < n → f k ≤ greatest_to n f
unfolding greatest_to
at_most_greatest zero f k lt = absurd (omega arith)
at_most_greatest (suc n) f k lt =
    let le : k ≤ n = omega arith in
    ⊎_elim (λ (e : k ≡ n). rw e (omega arith)) (λ h. omega (arith, at_most_greatest n f k h)) (eq-or-lt_of_le le)

module _ (s : List ℕ) where
  agree_says : (m : ℕ) → (goals_agree s m ≡ true) ↔ GoalsAgree s m
  unfolding goals_agree same_goals
  agree_says m = (
    (λ e k lt same l ll. eqb-true _ _ (every-each (links_of s) _ ((implies_says _ _).0 (every-each m _ e k lt) (eq-eqb _ _ same)) l ll)),
    (λ h. each-every m _ (λ k lt. (implies_says _ _).1 (λ e. each-every (links_of s) _ (λ l ll. eq-eqb _ _ (h k lt (eqb-true _ _ e) l ll))))),
  )

  used_says : (n : ℕ) → (is_used s n ≡ true) ↔ Used s n
  unfolding is_used
  used_says n = (
    (λ e. let (m, lt, is) = any_some (modes_of s) (λ k. eqb (goal_number_of s k) n) e in (m, lt, eqb-true _ _ is)),
    (λ (m, lt, is). some_any (modes_of s) (λ k. eqb (goal_number_of s k) n) m lt (eq-eqb _ _ is)),
  )

  -- the greatest number is used whatever else is
  gap_says : 1 ≤ modes_of s → (no_gap s ≡ true) ↔ NumbersUsed s
  unfolding no_gap greatest_goal
  gap_says some = (there, (λ h. each-every (greatest_goal s) _ (λ n lt. (used_says n).1 (h n (omega arith)))))
    where
      there : no_gap s ≡ true → NumbersUsed s
      there e n le =
          ⊎_elim
          (λ (last : n ≡ greatest_goal s). let (m, lt, is) = attained (modes_of s) (goal_number_of s) some in (m, lt, is ∙ sym last))
          (λ lt. (used_says n).0 (every-each (greatest_goal s) _ e n lt))
          (eq-or-lt_of_le le)

  -- what an MD says of goals, the mark and the signal aside
  abbrev pub GoalLine : ℕ → Type 0
  GoalLine m =
      (goal_number_of s m ≤ max_goal_number) × (takes_turns s ≡ true → (l : ℕ) → l < links_of s → goal_for s m l ≤ safe_of s l)
      × GoalsAgree s m × (m + 1 ≡ modes_of s → NumbersUsed s)

  ok_says : (m : ℕ) → takes_turns s ≡ true → (goals_ok s m ≡ true) ↔ GoalLine m
  unfolding goals_ok goals_safe
  ok_says m turns = (there, back)
    where
      there : goals_ok s m ≡ true → GoalLine m
      there e =
          let rest = also_both _ _ e in
          let more = also_both _ _ rest.0 in
          let first = also_both _ _ more.0 in (
            leb-true _ _ first.0,
            (λ _ l lt. leb-true _ _ (every-each (links_of s) _ first.1 l lt)),
            (agree_says m).0 more.1,
            (λ last. (gap_says (omega arith)).0 ((implies_says _ _).0 rest.1 (eq-eqb _ _ last))),
          )

      back : GoalLine m → goals_ok s m ≡ true
      back (number, goals, agree, used) =
          both_also _ _
          (both_also _ _ (both_also _ _ (le-leb _ _ number) (each-every (links_of s) _ (λ l lt. le-leb _ _ (goals turns l lt)))) ((agree_says m).1 agree))
          ((implies_says _ _).1 (λ e. let last = eqb-true (m + 1) (modes_of s) e in (gap_says (omega arith)).1 (used last)))

  -- where there is one goal, all modes have it
  pub one_agrees : takes_turns s ≡ false → (k m : ℕ) → SameGoals s k m
  one_agrees one k m l lt = (one_goal_layout s one).goal k l ∙ sym ((one_goal_layout s one).goal m l)

  pub one_used : takes_turns s ≡ false → 1 ≤ modes_of s → NumbersUsed s
  unfolding greatest_goal
  one_used one some n le = (0, some, omega (arith, (one_goal_layout s one).number 0, none_greater (modes_of s) (goal_number_of s) (one_goal_layout s one).number))

  pub goals_say : (m : ℕ) → ((not (takes_turns s) || goals_ok s m) ≡ true) ↔ GoalLine m
  goals_say m = ((λ e. there (takes_turns s) refl ((implies_says _ _).0 e)), (λ h. (implies_says _ _).1 (λ e. (ok_says m e).1 h)))
    where
      there : (b : Bool) → takes_turns s ≡ b → (takes_turns s ≡ true → goals_ok s m ≡ true) → GoalLine m
      there true e h = (ok_says m e).0 (h e)
      there false e h = (
        omega (arith, (one_goal_layout s e).number m),
        (λ turns. absurd (false≢true (sym e ∙ turns))),
        (λ k _ _. one_agrees e k m),
        (λ last. one_used e (omega arith)),
      )

  pub turns_say : (e : ℕ) → (turns_on s e ≡ true) ↔ TurnsOn s e
  unfolding turns_on
  turns_say e = go (eqb (rank_of s e) 0) refl
    where
      go : (b : Bool) → eqb (rank_of s e) 0 ≡ b
          → (eqb (goal_number_of s (next_mode_of s e)) (pick b (next_goal s (goal_number_of s (mode_of s e))) (goal_number_of s (mode_of s e))) ≡ true) ↔ TurnsOn s e
      go true z =
          let zero_rank = eqb-true (rank_of s e) 0 z in
          ((λ h. record { stays = λ above. absurd (omega arith); passes = λ _. eqb-true _ _ h }), (λ on. eq-eqb _ _ (on.passes zero_rank)))
      go false z =
          let other = eqb-false (rank_of s e) 0 z in
          ((λ h. record { stays = λ _. eqb-true _ _ h; passes = λ zero_rank. absurd (other zero_rank) }), (λ on. eq-eqb _ _ (on.stays (omega arith))))

  -- the goals of all modes agree exactly if those of each agree with those before it
  pub all_agree : (n : ℕ) → ((m : ℕ) → m < n → GoalsAgree s m) ↔ ((k m : ℕ) → k < n → m < n → goal_number_of s k ≡ goal_number_of s m → SameGoals s k m)
  all_agree n = (there, (λ h m lm k lt. h k m (omega arith) lm))
    where
      there : ((m : ℕ) → m < n → GoalsAgree s m) → (k m : ℕ) → k < n → m < n → goal_number_of s k ≡ goal_number_of s m → SameGoals s k m
      there h k m lk lm same l ll = go (leb k m) refl
        where
          go : (b : Bool) → leb k m ≡ b → goal_for s k l ≡ goal_for s m l
          go true q = ⊎_elim (λ (x : k ≡ m). rw x refl) (λ lt. h m lm k lt same l ll) (eq-or-lt_of_le (leb-true _ _ q))
          go false q = sym (h k lk m (leb-false _ _ q) (sym same) l ll)

pub goals_in_order : GoalsInOrder
unfolding next_goal greatest_goal
goals_in_order s =
    record {
      most = λ m lt. at_most_greatest (modes_of s) (goal_number_of s) m lt;
      on = λ n lt. let other : n ≡ greatest_to (modes_of s) (goal_number_of s) → ⊥ = λ e. absurd (omega arith) in rw (ne_eqb _ _ other);
      wraps = rw (eq-eqb (greatest_to (modes_of s) (goal_number_of s)) (greatest_to (modes_of s) (goal_number_of s)) refl);
    }
