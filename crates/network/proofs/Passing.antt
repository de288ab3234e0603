-- What is passed into a link, turn by turn, and how far it falls at most under condition 10. Assumes nothing.
use Prim.Native.Nat.{ℕ, ◌+◌, ◌*◌, ◌≤◌, ◌<◌}
use mathlib.Core.Bool.{Bool, true, false}
use mathlib.Core.Path.{◌≡◌, refl}
use native.Mathlib.Nat.{le_trans, mul-le-mul_left, mul-le-mul_right, mul_assoc, mul-add, mul-zero}
use native.Mathlib.Omega.{arith}
use borrow.Author.Tests.{eqb-true}
use lib.Dec.{eqb}
use Rattle.certificate.specs.Loops.{pick, sum_to}
use Rattle.certificate.proofs.Loops.{sum_slack}
use Rattle.network.specs.Network.{Network}
use Rattle.network.specs.Flow.{sent, passed_in}
use Rattle.network.specs.Conditions.{pull_sum}
use Rattle.network.specs.Sound.{Sound}
use Rattle.network.proofs.Sending.{sent_none}

-- the sum of f over the turns into link l
abbrev pub into_sum : Network → ℕ → (ℕ → ℕ) → ℕ
into_sum N l f = sum_to N.turns (λ t. pick (eqb (N.to t) l) (f t) 0)

-- terms that are short by at most a factor times d: the sum is short by at most the sum of the factors times d
pub into_slack : (N : Network) (l : ℕ) (f g w : ℕ → ℕ) (d : ℕ) → ((t : ℕ) → t < N.turns → N.to t ≡ l → f t ≤ g t + w t * d)
    → into_sum N l f ≤ into_sum N l g + into_sum N l w * d
into_slack N l f g w d h = sum_slack N.turns _ _ _ d (λ t lt. go t lt (eqb (N.to t) l) refl)
  where
    go : (t : ℕ) → t < N.turns → (q : Bool) → eqb (N.to t) l ≡ q → pick q (f t) 0 ≤ pick q (g t) 0 + pick q (w t) 0 * d
    go t lt true q = h t lt (eqb-true _ _ q)
    go t lt false q = omega arith

-- where each from link sends at most g and d times the turn's pull, at most the shares of g and 10,000 × d are passed in
pub passed_slack : (N : Network) (green : ℕ → Bool) (limit : ℕ → ℕ) → Sound N green limit → (D l : ℕ) → l < N.links → (x g : ℕ → ℕ) (d : ℕ)
    → ((t : ℕ) → t < N.turns → N.to t ≡ l → sent N limit D x (N.from t) ≤ g t + N.pull t * d)
    → passed_in N limit D x l ≤ into_sum N l (λ t. N.share t * g t) + 10000 * d
unfolding passed_in pull_sum
passed_slack N green limit S D l hl x g d h =
    le_trans
    (into_slack N l (λ t. N.share t * sent N limit D x (N.from t)) (λ t. N.share t * g t) factor d (λ t lt e. term t lt e (green (N.from t)) refl))
    (omega (arith, mul-le-mul_right d (S.pulls l hl)))
  where
    factor : ℕ → ℕ
    factor t = pick (green (N.from t)) (N.share t * N.pull t) 0

    term : (t : ℕ) → t < N.turns → N.to t ≡ l → (r : Bool) → green (N.from t) ≡ r
        → N.share t * sent N limit D x (N.from t) ≤ N.share t * g t + pick r (N.share t * N.pull t) 0 * d
    term t lt e true f = rw (mul_assoc, ← mul-add) (mul-le-mul_left (N.share t) (h t lt e))
    term t lt e false f =
        let none : sent N limit D x (N.from t) ≡ 0 = sent_none N limit D x (N.from t) (S.red (N.from t) (S.joins.from_link t lt) f) in
        rw (none, mul-zero) (omega arith)
