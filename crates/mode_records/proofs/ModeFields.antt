-- The fields of a mode's record by its place, and the greatest goal number, mode by mode. Assumes nothing.
use Prim.Native.Nat.{ℕ, ◌+◌, ◌*◌, max}
use mathlib.Core.Bool.{true, false}
use mathlib.Core.List.{List}
use mathlib.Core.Path.{◌≡◌, refl, sym, ◌∙◌}
use native.Mathlib.Numerals.{add-one}
use Rattle.certificate.specs.Loops.{greatest_to}
use Rattle.certificate.specs.Octets.{byte_at, u16_at}
use Rattle.certificate.specs.Layout.{modes_of, remembers, takes_turns, mode_at, shown_before, goal_number_of, goal_for, greatest_goal}
use Rattle.certificate.proofs.KindLaws.{one_goal_layout, none_greater}

module _ (s : List ℕ) (m : ℕ) {o : ℕ} (here : o ≡ mode_at s m) where
  pub shown_held : {r : ℕ} → remembers s ≡ true → r ≡ byte_at s (o + 2) → r ≡ shown_before s m
  unfolding shown_before
  shown_held e h = h ∙ rw (e, here)

  pub number_held : {r : ℕ} → takes_turns s ≡ true → r ≡ byte_at s (o + 3) → r ≡ goal_number_of s m
  unfolding goal_number_of
  number_held e h = h ∙ rw (e, here)

  pub goal_held : (l : ℕ) {r : ℕ} → takes_turns s ≡ true → r ≡ u16_at s (o + (4 + 2 * l)) → r ≡ goal_for s m l
  unfolding goal_for
  goal_held l e h = h ∙ rw (e, here)

-- the greatest so far, with one number more
pub greatest_none : (f : ℕ → ℕ) → 0 ≡ greatest_to 0 f
unfolding greatest_to
greatest_none f = refl

pub greatest_more : (f : ℕ → ℕ) (m : ℕ) {g n r : ℕ} → g ≡ greatest_to m f → n ≡ f m → r ≡ max g n → r ≡ greatest_to (m + 1) f
unfolding greatest_to
greatest_more f m p q e = e ∙ rw (add-one, p, q)

-- where there is one goal, its number is the greatest
pub one_greatest : (s : List ℕ) → takes_turns s ≡ false → 0 ≡ greatest_goal s
unfolding greatest_goal
one_greatest s one = sym (none_greater (modes_of s) (goal_number_of s) (one_goal_layout s one).number)
