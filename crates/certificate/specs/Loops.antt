-- Sums, the greatest of some, tests of some and of every index, and counted loops, by which the other definitions are written.
use Rattle.std.specs.Prelude.{ℕ, zero, suc, ◌+◌, ◌-◌, max, Bool, true, false, ◌&&◌, ◌||◌}

-- a where the test holds, else b
abbrev pub pick : Bool → ℕ → ℕ → ℕ
pick true a b = a
pick false a b = b

-- the sum of f 0 .. f (n - 1)
unfoldable pub sum_to : ℕ → (ℕ → ℕ) → ℕ
sum_to zero f = 0
sum_to (suc n) f = sum_to n f + f n

-- the greatest of f 0 .. f (n - 1), 0 where n is 0
unfoldable pub greatest_to : ℕ → (ℕ → ℕ) → ℕ
greatest_to zero f = 0
greatest_to (suc n) f = max (greatest_to n f) (f n)

-- the test holds of some index below n
unfoldable pub any_to : ℕ → (ℕ → Bool) → Bool
any_to zero p = false
any_to (suc n) p = any_to n p || p n

-- the test holds of k indices from i on
unfoldable pub every_of : (ℕ → Bool) → ℕ → ℕ → Bool
every_of p zero i = true
every_of p (suc k) i = p i && every_of p k (i + 1)

-- the test holds of every index i .. n - 1
unfoldable pub every_from : ℕ → (ℕ → Bool) → ℕ → Bool
every_from n p i = every_of p (n - i) i

-- the test holds of every index below n
abbrev pub every : ℕ → (ℕ → Bool) → Bool
every n p = every_from n p 0

-- the first of k indices from i on of which the test holds, and i + k where it holds of none
unfoldable pub first_of_these : (ℕ → Bool) → ℕ → ℕ → ℕ
first_of_these p zero i = i
first_of_these p (suc k) i = pick (p i) i (first_of_these p k (i + 1))

-- the first index i .. n - 1 of which the test holds, and n where it holds of none (for i at most n)
unfoldable pub find_from : ℕ → (ℕ → Bool) → ℕ → ℕ
find_from n p i = first_of_these p (n - i) i

-- the first index below n of which the test holds, and n where it holds of none
abbrev pub find : ℕ → (ℕ → Bool) → ℕ
find n p = find_from n p 0

-- A loop that carries a state, as a function. A round is handed its number, the state, and what is done with the next state:
-- it goes on by that, or stops by an answer of its own.
module _ {S R : Type 0} where
  -- k rounds from round i on, and then done
  unfoldable pub rounds : (ℕ → S → (S → R) → R) → (S → R) → ℕ → ℕ → S → R
  rounds round done zero i s = done s
  rounds round done (suc k) i s = round i s (rounds round done k (i + 1))

  -- the rounds i .. n - 1, and then done
  unfoldable pub loop_from : (ℕ → S → (S → R) → R) → (S → R) → ℕ → ℕ → S → R
  loop_from round done n i s = rounds round done (n - i) i s
