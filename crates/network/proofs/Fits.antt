-- The next queue never exceeds cap, and with no arrivals it would not even without the cut. Assumes nothing.
use Prim.Native.Nat.{ℕ, ◌*◌, ◌-◌, ◌≤◌, ◌<◌}
use mathlib.Core.Bool.{Bool, true, false}
use mathlib.Core.Path.{◌≡◌, refl}
use native.Mathlib.Nat.{min-le_left, mul-zero}
use native.Mathlib.Omega.{arith}
use lib.Dec.{eqb}
use Rattle.certificate.specs.Loops.{pick}
use Rattle.certificate.proofs.Loops.{sum_none}
use Rattle.network.specs.Network.{Network}
use Rattle.network.specs.Flow.{passed_in, gross, next}
use Rattle.network.specs.Sound.{Sound}
use Rattle.network.specs.Laws.{NextFits, GrossFits}
use Rattle.network.proofs.Sending.{sent_supply}
use Rattle.network.proofs.Passing.{into_sum, passed_slack}

pub next_fits : NextFits
unfolding next
next_fits N limit D x a l = min-le_left _ _

-- so neither end of an image does: both are next queues at scale 1
pub end_fits : (N : Network) (limit x a : ℕ → ℕ) (l : ℕ) → next N limit 1 x a l ≤ 10000 * N.cap l
end_fits N limit x a l = omega (arith, next_fits N limit 1 x a l)

-- shares of nothing are nothing
none_in : (N : Network) (l : ℕ) → into_sum N l (λ t. N.share t * 0) ≡ 0
none_in N l = sum_none N.turns _ (λ t _. rw mul-zero (go (eqb (N.to t) l)))
  where
    go : (q : Bool) → pick q 0 0 ≡ 0
    go true = refl
    go false = refl

-- what comes in by a turn is at most its supply, so all that comes in is at most the room that is left (condition 10)
passed_room : (N : Network) (green : ℕ → Bool) (limit : ℕ → ℕ) → Sound N green limit → (D l : ℕ) → l < N.links → (x : ℕ → ℕ)
    → passed_in N limit D x l ≤ 10000 * (D * N.cap l - x l)
passed_room N green limit S D l hl x =
    omega (
      arith,
      none_in N l,
      passed_slack N green limit S D l hl x (λ t. 0) (D * N.cap l - x l)
          (λ t lt e. omega (arith, rw e at (sent_supply N limit D x t (N.from t) lt refl))),
    )

pub gross_fits : GrossFits
unfolding gross
gross_fits N green limit S D x l hl fits = omega (arith, passed_room N green limit S D l hl x)
