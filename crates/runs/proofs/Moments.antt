-- What stands at all moments of a run, from what each step keeps: the scale, the memory, an entry in force. Assumes nothing.
use Prim.Native.Nat.{ℕ, zero, suc, ◌≤◌}
use mathlib.Core.List.{List, [], ◌∷◌}
use native.Mathlib.Omega.{arith}
use lib.ListN.{length}
use Rattle.certificate.specs.Facts.{Readable}
use Rattle.runs.specs.Runs.{RunState, Step, InForce, stepped, after, moment_of, Remembered, ProperSteps}
use Rattle.runs.proofs.Steps.{Follower, Steady, scale_stays, remembers_on}

-- at every moment the scale is at least 1
pub scale_at : (s : List ℕ) (r : RunState) (steps : List Step) → 1 ≤ r.scale → ProperSteps s steps → (k : ℕ) → 1 ≤ (moment_of s r steps k).scale
unfolding after
scale_at s r steps pos P zero = pos
scale_at s r [] pos P (suc k) = pos
scale_at s r (p ∷ ps) pos P (suc k) =
    scale_at s (stepped s r p) ps (scale_stays s p (P zero (omega arith)) r pos) (λ i lt. P (suc i) (omega arith)) k

-- and the memory is kept
pub remembered_at : (s : List ℕ) → Readable s → (r : RunState) (steps : List Step) → Remembered s r → (k : ℕ) → Remembered s (moment_of s r steps k)
unfolding after
remembered_at s R r steps M zero = M
remembered_at s R r [] M (suc k) = M
remembered_at s R r (p ∷ ps) M (suc k) = remembered_at s R (stepped s r p) ps (remembers_on s R r p M) k

-- a run from state r by a list of steps, with entry e in force at moment 0
pub record Run (s : List ℕ) (r : RunState) (e : ℕ) (steps : List Step) : Type 0 where
  pub scale : 1 ≤ r.scale
  pub in_force : InForce s r e
  pub remembered : Remembered s r
  pub proper : ProperSteps s steps

-- the run goes on after its first step
module _ (s : List ℕ) (S : Steady s) where
  -- the entry in force after the first step, and the run from there by the other steps
  module _ {r : RunState} {e : ℕ} {p : Step} {ps : List Step} (R : Run s r e (p ∷ ps)) where
    pub first : Follower s e (stepped s r p)
    first = S.step r e p R.in_force R.scale R.remembered (R.proper zero (omega arith))

    pub rest : Run s (stepped s r p) first.entry ps
    rest =
        record {
          scale = first.scale;
          in_force = first.in_force;
          remembered = S.memory r p R.remembered;
          proper = λ k lt. R.proper (suc k) (omega arith);
        }

  -- at every moment some entry is in force
  pub listed : {r : RunState} {e : ℕ} {steps : List Step} → Run s r e steps → (k : ℕ) → k ≤ length steps → (f : ℕ) × InForce s (moment_of s r steps k) f
  unfolding after
  listed {e} R zero le = (e, R.in_force)
  listed {steps = []} R (suc k) le = absurd (omega arith)
  listed {r} {steps = p ∷ ps} R (suc k) le = listed {r = stepped s r p} (rest R) k (omega arith)
