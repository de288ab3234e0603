-- What the theorems on the flow rule ask of a network, its signal and its limits, and the order of queues that they speak of.
use Rattle.std.specs.Prelude.{ℕ, ◌*◌, ◌-◌, ◌≤◌, ◌<◌, Bool, false, ◌≡◌}
use Rattle.certificate.specs.Layout.{max_pull_sum}
use Rattle.network.specs.Network.{Network}
use Rattle.network.specs.Conditions.{pull_sum}

-- turns join existing links, a pair of links has one turn, and no link leads to its own tail
pub record Joined (N : Network) : Type 0 where
  pub from_link : (t : ℕ) → t < N.turns → N.from t < N.links
  pub to_link : (t : ℕ) → t < N.turns → N.to t < N.links
  pub joined : (t : ℕ) → t < N.turns → N.head (N.from t) ≡ N.tail (N.to t)
  pub no_loop : (l : ℕ) → l < N.links → N.head l ≡ N.tail l → ⊥
  pub one_turn : (s t : ℕ) → s < N.turns → t < N.turns → N.from s ≡ N.from t → N.to s ≡ N.to t → s ≡ t

-- conditions 10 and 11 under a signal, and limits that are 0 on red links and at most flow on green ones
pub record Sound (N : Network) (green : ℕ → Bool) (limit : ℕ → ℕ) : Type 0 where
  pub joins : Joined N
  pub pulls : (l : ℕ) → l < N.links → pull_sum N green l ≤ max_pull_sum
  pub room : (t : ℕ) → t < N.turns → 100 * N.flow (N.from t) ≤ N.pull t * (N.cap (N.to t) - N.flow (N.to t))
  pub red : (l : ℕ) → l < N.links → green l ≡ false → limit l ≡ 0
  pub most : (l : ℕ) → l < N.links → limit l ≤ N.flow l

-- y pushes link l at least as high as x (004, Theorem 1): at most x on the links beside l, at least x on all others
pub record Pushes (N : Network) (l : ℕ) (x y : ℕ → ℕ) : Type 0 where
  pub beside : (k : ℕ) → k < N.links → N.tail k ≡ N.tail l → (k ≡ l → ⊥) → y k ≤ x k
  pub other : (k : ℕ) → k < N.links → (N.tail k ≡ N.tail l → k ≡ l) → x k ≤ y k

-- queues x over scale D lie in the closed box lower .. upper of n links
abbrev pub Within : ℕ → (ℕ → ℕ) → (ℕ → ℕ) → ℕ → (ℕ → ℕ) → Type 0
Within n lower upper D x = (k : ℕ) → k < n → (D * lower k ≤ x k) × (x k ≤ D * upper k)
