-- Arrivals are added last: an end before arrivals, cut at cap with them, is the end of the image. Assumes nothing.
use Prim.Native.Nat.{ℕ, ◌+◌, ◌*◌, min}
use mathlib.Core.Path.{◌≡◌}
use native.Mathlib.Omega.{arith}
use Rattle.network.specs.Network.{Network}
use Rattle.network.specs.Flow.{gross, next}

pub gross_arriving : (N : Network) (limit : ℕ → ℕ) (D : ℕ) (x a : ℕ → ℕ) (l : ℕ) → gross N limit D x a l ≡ gross N limit D x (λ _. 0) l + 10000 * a l
unfolding gross
gross_arriving N limit D x a l = omega arith

-- low_end and high_end are such next queues, at their corners
pub end_arriving : (N : Network) (limit x a : ℕ → ℕ) (l before arrivals : ℕ) → before ≡ gross N limit 1 x (λ _. 0) l → arrivals ≡ a l
    → min (10000 * N.cap l) (before + 10000 * arrivals) ≡ next N limit 1 x a l
unfolding next
end_arriving N limit x a l before arrivals eb ea = omega (arith, gross_arriving N limit 1 x a l)
