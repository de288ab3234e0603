-- What the kind of a certificate says of its mark and of its layout. Assumes nothing.
use Prim.Native.Nat.{ℕ, zero, suc}
use mathlib.Core.Bool.{Bool, true, false}
use mathlib.Core.List.{List}
use mathlib.Core.Path.{◌≡◌, refl}
use mathlib.Core.Logic.{◌⊎◌, inl, inr}
use native.Mathlib.Omega.{arith}
use borrow.Author.Tests.{eqb-true}
use lib.Dec.{eqb}
use Rattle.certificate.specs.Loops.{pick, greatest_to}
use Rattle.certificate.specs.Layout.{plain_mode_size, goal_mode_size, kind_byte_of, remembers, takes_turns, links_of, modes_of, link_size, start_flow_of, mode_records_of, modes_start, mode_size, goal_number_of, goal_for, greatest_goal, next_goal, grid_start, rank_of}
use Rattle.certificate.specs.Records.{passes_on, turns_on}
use Rattle.certificate.specs.Facts.{Mark, HeaderMark}
use Rattle.certificate.specs.Laws.{KindIsMark, TurnsRemember, PlainLayout, OneGoalLayout}

pub kind_is_mark : KindIsMark
unfolding remembers takes_turns
kind_is_mark s R = by_mark R.header.mark
  where
    -- the second byte of the mark says the kind
    by_mark : HeaderMark s
        → (Mark s 0 72 68 × (remembers s ≡ false) × (takes_turns s ≡ false))
        ⊎ (Mark s 0 72 50 × (remembers s ≡ true) × (takes_turns s ≡ false))
        ⊎ (Mark s 0 72 51 × (remembers s ≡ true) × (takes_turns s ≡ true))
    by_mark (inl m) = inl (m, rw m.second, rw m.second)
    by_mark (inr (inl m)) = inr (inl (m, rw m.second, rw m.second))
    by_mark (inr (inr m)) = inr (inr (m, rw m.second, rw m.second))

pub turns_remember : TurnsRemember
unfolding remembers takes_turns
turns_remember s e = rw (eqb-true (kind_byte_of s) 51 e)

pub plain_layout : PlainLayout
unfolding link_size start_flow_of grid_start mode_records_of modes_start passes_on
plain_layout s plain =
    record {
      link = λ l. rw plain;
      start_flow = λ l. rw plain;
      grid = rw plain (omega arith);
      passes_on_fact = λ e. rw plain;
    }

-- no number is above 0 where all are 0
pub none_greater : (n : ℕ) (f : ℕ → ℕ) → ((k : ℕ) → f k ≡ 0) → greatest_to n f ≡ 0
unfolding greatest_to
none_greater zero f all = refl
none_greater (suc n) f all = rw (none_greater n f all, all n)

pub one_goal_layout : OneGoalLayout
unfolding mode_size goal_number_of goal_for turns_on next_goal greatest_goal
one_goal_layout s one =
    record {
      size = rw one;
      number = λ m. rw one;
      goal = λ m l. rw one;
      turns_on_fact = λ e. rw (one, none_greater (modes_of s) (goal_number_of s) (λ k. rw one)) (same (eqb (rank_of s e) 0));
    }
  where
    same : (b : Bool) → eqb 0 (pick b 0 0) ≡ true
    same true = refl
    same false = refl

-- the size of an MD tells whether it has goals
sized : (b : Bool) (links : ℕ) → (pick b (goal_mode_size links) plain_mode_size ≡ plain_mode_size → ⊥) → b ≡ true
sized true links other = refl
sized false links other = absurd (other refl)

pub other_size : (s : List ℕ) → (mode_size s ≡ plain_mode_size → ⊥) → takes_turns s ≡ true
unfolding mode_size
other_size s other = sized (takes_turns s) (links_of s) other

plain_sized : (b : Bool) (links : ℕ) → pick b (goal_mode_size links) plain_mode_size ≡ plain_mode_size → b ≡ false
plain_sized true links e = absurd (omega arith)
plain_sized false links e = refl

pub plain_size : (s : List ℕ) → mode_size s ≡ plain_mode_size → takes_turns s ≡ false
unfolding mode_size
plain_size s e = plain_sized (takes_turns s) (links_of s) e
