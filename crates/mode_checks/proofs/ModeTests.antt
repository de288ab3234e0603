-- The tests of a mode's record, as the code makes them. Assumes nothing.
use Prim.Native.Nat.{ℕ, ◌≤◌, ◌<◌}
use mathlib.Core.Bool.{Bool, true, false, not}
use mathlib.Core.List.{List}
use mathlib.Core.Path.{◌≡◌, refl, ◌∙◌}
use native.Mathlib.Omega.{arith}
use borrow.Author.Tests.{le-ltb, lt-ltb, not-true, not-false}
use Rattle.certificate.specs.Octets.{◌also◌}
use Rattle.certificate.specs.Loops.{pick}
use Rattle.certificate.specs.Layout.{signals_of, modes_of, remembers, takes_turns, mode_records_of, shown_before}
use Rattle.certificate.specs.Records.{goals_ok, mode_ok}

module _ (s : List ℕ) (m : ℕ) {shown signals : ℕ} (p : shown ≡ shown_before s m) (q : signals ≡ signals_of s) where
  pub no_signal : signals ≤ shown → false ≡ mode_ok s m
  unfolding mode_ok ◌also◌
  no_signal le = rw (← p, ← q, le-ltb shown signals le)

  pub one_goal : {turns : Bool} → shown < signals → turns ≡ takes_turns s → not turns ≡ true → true ≡ mode_ok s m
  unfolding mode_ok ◌also◌
  one_goal {turns} lt is y = rw (← p, ← q, lt-ltb shown signals lt, ← is, not-true turns y)

  pub with_goals : {turns g : Bool} → shown < signals → turns ≡ takes_turns s → not turns ≡ false → g ≡ goals_ok s m → g ≡ mode_ok s m
  unfolding mode_ok ◌also◌
  with_goals {turns} lt is y h = h ∙ rw (← p, ← q, lt-ltb shown signals lt, ← is, not-false turns y)

-- where there is a record of a mode, modes remember
pub recorded : (s : List ℕ) (m : ℕ) → m < mode_records_of s → remembers s ≡ true
unfolding mode_records_of
recorded s m = go (remembers s)
  where
    go : (b : Bool) → m < pick b (modes_of s) 0 → b ≡ true
    go true lt = refl
    go false lt = absurd (omega arith)
