-- Loops that carry a count: a round passes and adds to the count, or stops by an answer of its own. Assumes nothing.
use Prim.Native.Nat.{ℕ, zero, suc, ◌+◌, ◌≤◌, ◌<◌}
use mathlib.Core.Path.{◌≡◌, ◌∙◌}
use native.Mathlib.Nat.{add-zero, add_assoc}
use native.Mathlib.Numerals.{add-one}
use native.Mathlib.Omega.{arith}
use Rattle.certificate.specs.declared.Report.{Report}
use Rattle.certificate.specs.Loops.{sum_to, loop_from}
use Rattle.certificate.proofs.Loops.{loop_round, loop_end}

-- round i goes on with k more on the count
abbrev pub Passes : (ℕ → ℕ → (ℕ → Report) → Report) → ℕ → ℕ → Type 0
Passes round i k = (n : ℕ) (next : ℕ → Report) → round i n next ≡ next (n + k)

-- round i answers r, whatever comes next
abbrev pub Stops : (ℕ → ℕ → (ℕ → Report) → Report) → ℕ → (ℕ → Report) → Type 0
Stops round i r = (n : ℕ) (next : ℕ → Report) → round i n next ≡ r n

module _ (round : ℕ → ℕ → (ℕ → Report) → Report) (k : ℕ → ℕ) (m : ℕ) where
  -- past i rounds that pass
  past : (i : ℕ) → i ≤ m → ((j : ℕ) → j < i → Passes round j (k j)) → (n : ℕ) (next : ℕ → Report)
      → loop_from round next m 0 n ≡ loop_from round next m i (n + sum_to i k)
  unfolding sum_to
  past zero le h n next = rw add-zero
  past (suc i) le h n next =
      past i (omega arith) (λ j lt. h j (omega arith)) n next
      ∙ loop_round round next m i (n + sum_to i k) le
      ∙ h i (omega arith) (n + sum_to i k) (loop_from round next m (i + 1))
      ∙ rw (add-one, add_assoc)

  -- a loop whose every round passes
  pub loop_passes : ((j : ℕ) → j < m → Passes round j (k j)) → (n : ℕ) (next : ℕ → Report) → loop_from round next m 0 n ≡ next (n + sum_to m k)
  loop_passes h n next = past m (omega arith) h n next ∙ loop_end round next m m (n + sum_to m k) (omega arith)

  -- a loop that round i stops
  pub loop_stops : (i : ℕ) (r : ℕ → Report) → i < m → ((j : ℕ) → j < i → Passes round j (k j)) → Stops round i r
      → (n : ℕ) (next : ℕ → Report) → loop_from round next m 0 n ≡ r (n + sum_to i k)
  loop_stops i r lt h stop n next =
      past i (omega arith) h n next
      ∙ loop_round round next m i (n + sum_to i k) lt
      ∙ stop (n + sum_to i k) (loop_from round next m (i + 1))
