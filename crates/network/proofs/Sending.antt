-- What a link sends is the greatest number within its queue, its limit and the supply of its turns. Assumes nothing.
use Prim.Native.Nat.{ℕ, zero, suc, ◌*◌, min, ◌≤◌, ◌<◌}
use mathlib.Core.Bool.{Bool, true, false}
use mathlib.Core.Path.{◌≡◌, refl, sym}
use native.Mathlib.Nat.{le-min, le_trans, mul-zero}
use native.Mathlib.Omega.{arith}
use borrow.Author.Tests.{eqb-true, eqb-false, eq-eqb}
use lib.Dec.{eqb}
use Rattle.certificate.specs.Loops.{pick}
use Rattle.network.specs.Network.{Network}
use Rattle.network.specs.Flow.{least_to, supply, sent}

-- whatever is at most the bound and at most each number that counts is at most the least
pub least_from : (n : ℕ) (p : ℕ → Bool) (f : ℕ → ℕ) (b k : ℕ) → k ≤ b → ((t : ℕ) → t < n → p t ≡ true → k ≤ f t) → k ≤ least_to n p f b
unfolding least_to
least_from zero p f b k hb h = hb
least_from (suc n) p f b k hb h = go (p n) refl (least_from n p f b k hb (λ t lt. h t (omega arith)))
  where
    go : (q : Bool) → p n ≡ q → k ≤ least_to n p f b → k ≤ pick q (min (f n) (least_to n p f b)) (least_to n p f b)
    go true e rest = le-min (h n (omega arith) e) rest
    go false e rest = rest

-- one more number leaves the least where it is or lowers it
lower : (q : Bool) (m k : ℕ) → pick q (min m k) k ≤ k
lower true m k = omega arith
lower false m k = omega arith

-- the least is at most the bound
pub least_base : (n : ℕ) (p : ℕ → Bool) (f : ℕ → ℕ) (b : ℕ) → least_to n p f b ≤ b
unfolding least_to
least_base zero p f b = omega arith
least_base (suc n) p f b = le_trans (lower (p n) (f n) (least_to n p f b)) (least_base n p f b)

-- and at most each number that counts
pub least_at : (n : ℕ) (p : ℕ → Bool) (f : ℕ → ℕ) (b t : ℕ) → t < n → p t ≡ true → least_to n p f b ≤ f t
unfolding least_to
least_at zero p f b t lt e = absurd (omega arith)
least_at (suc n) p f b t lt e = go (eqb t n) refl (λ h. least_at n p f b t h e)
  where
    go : (q : Bool) → eqb t n ≡ q → (t < n → least_to n p f b ≤ f t) → pick (p n) (min (f n) (least_to n p f b)) (least_to n p f b) ≤ f t
    go true q rest = let here : n ≡ t = sym (eqb-true t n q) in rw (here, e) (omega arith)
    go false q rest =
        let other : t ≡ n → ⊥ = eqb-false t n q in
        le_trans (lower (p n) (f n) (least_to n p f b)) (rest (omega arith))

module _ (N : Network) (limit : ℕ → ℕ) (D : ℕ) (x : ℕ → ℕ) where
  -- link j sends at most its queue and its limit
  sent_both : (j : ℕ) → sent N limit D x j ≤ min (100 * x j) (100 * (D * limit j))
  unfolding sent
  sent_both j = least_base N.turns _ _ _

  pub sent_queue : (j : ℕ) → sent N limit D x j ≤ 100 * x j
  sent_queue j = omega (arith, sent_both j)

  pub sent_limit : (j : ℕ) → sent N limit D x j ≤ 100 * (D * limit j)
  sent_limit j = omega (arith, sent_both j)

  -- so nothing where its limit is 0
  pub sent_none : (j : ℕ) → limit j ≡ 0 → sent N limit D x j ≡ 0
  sent_none j e = let most : D * limit j ≡ 0 = rw (e, mul-zero) in omega (arith, sent_limit j)

  -- and the supply of each of its turns
  pub sent_supply : (t j : ℕ) → t < N.turns → N.from t ≡ j → sent N limit D x j ≤ supply N limit D x t
  unfolding sent
  sent_supply t j lt e = least_at N.turns _ _ _ t lt (eq-eqb (N.from t) j e)

  -- and no less than these allow
  pub sent_most : (j k : ℕ) → k ≤ 100 * x j → k ≤ 100 * (D * limit j)
      → ((t : ℕ) → t < N.turns → N.from t ≡ j → k ≤ supply N limit D x t) → k ≤ sent N limit D x j
  unfolding sent
  sent_most j k queue most by_turn = least_from N.turns _ _ _ k (le-min queue most) (λ t lt p. by_turn t lt (eqb-true _ _ p))
