-- Laws of the loops of specs/Loops.antt. Assumes nothing.
use Prim.Native.Nat.{ℕ, zero, suc, ◌+◌, ◌*◌, ◌-◌, ◌≤◌, ◌<◌}
use mathlib.Core.Bool.{Bool, true, false, ◌&&◌, ◌||◌, false≢true}
use mathlib.Core.Path.{◌≡◌, refl, sym, ◌∙◌}
use mathlib.Core.Logic.{◌⊎◌, inl, inr, ⊎_elim}
use native.Mathlib.Nat.{eq-or-lt_of_le, add-mul, suc-mul}
use native.Mathlib.Numerals.{add-one}
use native.Mathlib.Omega.{arith}
use borrow.Author.Tests.{leb-true, leb-false}
use lib.Dec.{leb}
use Rattle.certificate.specs.Loops.{pick, sum_to, greatest_to, any_to, every_of, every_from, every, first_of_these, find_from, find, rounds, loop_from}
use Rattle.certificate.proofs.Tests.{and_both, both_and}

-- one round of a loop that carries a state, and its end
module _ {S R : Type 0} where
  pub loop_round : (round : ℕ → S → (S → R) → R) (done : S → R) (n i : ℕ) (s : S) → i < n → loop_from round done n i s ≡ round i s (loop_from round done n (i + 1))
  unfolding loop_from rounds
  loop_round round done n i s h = let e : n - i ≡ suc (n - (i + 1)) = omega arith in rw e

  pub loop_end : (round : ℕ → S → (S → R) → R) (done : S → R) (n i : ℕ) (s : S) → n ≤ i → loop_from round done n i s ≡ done s
  unfolding loop_from rounds
  loop_end round done n i s h = let e : n - i ≡ 0 = omega arith in rw e

-- some index passes the test: which one, and the other way
or_some : (p q : Bool) → (p || q) ≡ true → (p ≡ true) ⊎ (q ≡ true)
or_some true q e = inl refl
or_some false q e = inr e

pub any_some : (n : ℕ) (p : ℕ → Bool) → any_to n p ≡ true → (k : ℕ) × (k < n) × (p k ≡ true)
unfolding any_to
any_some zero p e = absurd (false≢true e)
any_some (suc n) p e =
    ⊎_elim
    (λ (h : any_to n p ≡ true). let (k, lt, is) = any_some n p h in (k, omega arith, is))
    (λ (h : p n ≡ true). (n, omega arith, h))
    (or_some (any_to n p) (p n) e)

or_right : (p : Bool) → (p || true) ≡ true
or_right true = refl
or_right false = refl

pub some_any : (n : ℕ) (p : ℕ → Bool) (k : ℕ) → k < n → p k ≡ true → any_to n p ≡ true
unfolding any_to
some_any zero p k lt e = absurd (omega arith)
some_any (suc n) p k lt e =
    let le : k ≤ n = omega arith in
    ⊎_elim
    (λ (last : k ≡ n). rw (← last, e) (or_right (any_to k p)))
    (λ (h : k < n). rw (some_any n p k h e))
    (eq-or-lt_of_le le)

-- two tests that agree below n
pub any_same : (n : ℕ) (p q : ℕ → Bool) → ((k : ℕ) → k < n → p k ≡ q k) → any_to n p ≡ any_to n q
unfolding any_to
any_same zero p q h = refl
any_same (suc n) p q h = rw (any_same n p q (λ k lt. h k (omega arith)), h n (omega arith))

-- of none, and of one index more
pub any_none : (p : ℕ → Bool) → false ≡ any_to 0 p
unfolding any_to
any_none p = refl

pub any_more : (p : ℕ → Bool) (n : ℕ) {r v : Bool} → r ≡ any_to n p → v ≡ p n → (r || v) ≡ any_to (n + 1) p
unfolding any_to
any_more p n e f = rw (add-one, e, f)

-- every index passes the test, one by one
of_every : (p : ℕ → Bool) (m i k : ℕ) → every_of p m i ≡ true → i ≤ k → k < i + m → p k ≡ true
unfolding every_of
of_every p zero i k e a b = absurd (omega arith)
of_every p (suc m) i k e a b =
    let h = and_both (p i) (every_of p m (i + 1)) e in
    ⊎_elim (λ (j : i ≡ k). rw j at h.0) (λ l. of_every p m (i + 1) k h.1 (omega arith) (omega arith)) (eq-or-lt_of_le a)

every_of_lem : (p : ℕ → Bool) (m i : ℕ) → ((k : ℕ) → i ≤ k → k < i + m → p k ≡ true) → every_of p m i ≡ true
unfolding every_of
every_of_lem p zero i h = refl
every_of_lem p (suc m) i h = both_and _ _ (h i (omega arith) (omega arith)) (every_of_lem p m (i + 1) (λ k a b. h k (omega arith) (omega arith)))

pub every-each : (n : ℕ) (p : ℕ → Bool) → every n p ≡ true → (k : ℕ) → k < n → p k ≡ true
unfolding every_from
every-each n p e k h = of_every p (n - 0) 0 k e (omega arith) (omega arith)

pub each-every : (n : ℕ) (p : ℕ → Bool) → ((k : ℕ) → k < n → p k ≡ true) → every n p ≡ true
unfolding every_from
each-every n p h = every_of_lem p (n - 0) 0 (λ k a b. h k (omega arith))

-- two tests that agree below n
of_same : (p q : ℕ → Bool) (m i : ℕ) → ((k : ℕ) → i ≤ k → k < i + m → p k ≡ q k) → every_of p m i ≡ every_of q m i
unfolding every_of
of_same p q zero i h = refl
of_same p q (suc m) i h = rw (h i (omega arith) (omega arith), of_same p q m (i + 1) (λ k a b. h k (omega arith) (omega arith)))

pub every_same : (n : ℕ) (p q : ℕ → Bool) → ((k : ℕ) → k < n → p k ≡ q k) → every n p ≡ every n q
unfolding every_from
every_same n p q h = of_same p q (n - 0) 0 (λ k a b. h k (omega arith))

pub every_turn : (n i : ℕ) (p : ℕ → Bool) → i < n → every_from n p i ≡ (p i && every_from n p (i + 1))
unfolding every_from every_of
every_turn n i p h = let e : n - i ≡ suc (n - (i + 1)) = omega arith in rw e

pub every_end : (n i : ℕ) (p : ℕ → Bool) → n ≤ i → every_from n p i ≡ true
unfolding every_from every_of
every_end n i p h = let e : n - i ≡ 0 = omega arith in rw e

-- the first index that passes a test: what lies before it fails, and it passes where it is below n
pub record Found (n : ℕ) (p : ℕ → Bool) (i k : ℕ) : Type 0 where
  pub least : i ≤ k
  pub most : k ≤ n
  pub passes : k < n → p k ≡ true
  pub before : (j : ℕ) → i ≤ j → j < k → p j ≡ false

found_of : (p : ℕ → Bool) (m i n : ℕ) → n ≡ i + m → Found n p i (first_of_these p m i)
unfolding first_of_these
found_of p zero i n e = record { least = omega arith; most = omega arith; passes = λ h. absurd (omega arith); before = λ j a b. absurd (omega arith) }
found_of p (suc m) i n e = go (p i) refl (found_of p m (i + 1) n (omega arith))
  where
    go : (b : Bool) → p i ≡ b → Found n p (i + 1) (first_of_these p m (i + 1)) → Found n p i (pick b i (first_of_these p m (i + 1)))
    go true q r = record { least = omega arith; most = omega arith; passes = λ h. q; before = λ j a b. absurd (omega arith) }
    go false q r =
        record {
          least = omega (arith, r.least);
          most = r.most;
          passes = r.passes;
          before = λ j a b. ⊎_elim (λ (x : i ≡ j). rw x at q) (λ l. r.before j (omega arith) b) (eq-or-lt_of_le a);
        }

pub found : (n : ℕ) (p : ℕ → Bool) → Found n p 0 (find n p)
unfolding find_from
found n p = found_of p (n - 0) 0 n (omega arith)

-- an index that passes is not before the first that does
pub find_least : (n : ℕ) (p : ℕ → Bool) (k : ℕ) → p k ≡ true → find n p ≤ k
find_least n p k e = lt_or (leb (find n p) k) refl
  where
    lt_or : (b : Bool) → leb (find n p) k ≡ b → find n p ≤ k
    lt_or true q = leb-true _ _ q
    lt_or false q = absurd (false≢true (sym ((found n p).before k (omega arith) (leb-false _ _ q)) ∙ e))

-- two searches whose tests agree
first_of_same : (p q : ℕ → Bool) (k i : ℕ) → ((j : ℕ) → i ≤ j → j < i + k → p j ≡ q j) → first_of_these p k i ≡ first_of_these q k i
unfolding first_of_these
first_of_same p q zero i h = refl
first_of_same p q (suc k) i h = rw (h i (omega arith) (omega arith), first_of_same p q k (i + 1) (λ j a b. h j (omega arith) (omega arith)))

pub find_same : (n m : ℕ) (p q : ℕ → Bool) → n ≡ m → ((j : ℕ) → j < n → p j ≡ q j) → find n p ≡ find m q
unfolding find_from
find_same n m p q e h = rw (← e) (first_of_same p q (n - 0) 0 (λ j a b. h j (omega arith)))

-- the greatest of numbers that agree
pub greatest_same : (n : ℕ) (f g : ℕ → ℕ) → ((k : ℕ) → k < n → f k ≡ g k) → greatest_to n f ≡ greatest_to n g
unfolding greatest_to
greatest_same zero f g h = refl
greatest_same (suc n) f g h = rw (greatest_same n f g (λ k lt. h k (omega arith)), h n (omega arith))

-- two sums whose terms agree
pub sum_same : (n : ℕ) (f g : ℕ → ℕ) → ((t : ℕ) → t < n → f t ≡ g t) → sum_to n f ≡ sum_to n g
unfolding sum_to
sum_same zero f g h = refl
sum_same (suc n) f g h = rw (sum_same n f g (λ t lt. h t (omega arith)), h n (omega arith))

-- a sum of nothing is nothing
pub sum_none : (n : ℕ) (f : ℕ → ℕ) → ((t : ℕ) → t < n → f t ≡ 0) → sum_to n f ≡ 0
unfolding sum_to
sum_none zero f h = refl
sum_none (suc n) f h = rw (sum_none n f (λ t lt. h t (omega arith)), h n (omega arith))

-- one term more
pub sum_next : (n : ℕ) (f : ℕ → ℕ) → sum_to (n + 1) f ≡ sum_to n f + f n
unfolding sum_to
sum_next n f = rw add-one

-- sums of sums
sum_plus : (n : ℕ) (f g : ℕ → ℕ) → sum_to n (λ t. f t + g t) ≡ sum_to n f + sum_to n g
unfolding sum_to
sum_plus zero f g = refl
sum_plus (suc n) f g = omega (arith, sum_plus n f g)

pub sum_swap : (n m : ℕ) (h : ℕ → ℕ → ℕ) → sum_to n (λ l. sum_to m (h l)) ≡ sum_to m (λ t. sum_to n (λ l. h l t))
unfolding sum_to
sum_swap zero m h = sym (sum_none m _ (λ _ _. refl))
sum_swap (suc n) m h = omega (arith, sum_swap n m h, sum_plus m (λ t. sum_to n (λ l. h l t)) (h n))

-- a sum of terms that are at most m: at most n × m, and that where each of them is m
module _ (m : ℕ) (f : ℕ → ℕ) where
  pub sum_most : (n : ℕ) → ((t : ℕ) → t < n → f t ≤ m) → sum_to n f ≤ n * m
  unfolding sum_to
  sum_most zero h = omega arith
  sum_most (suc n) h = omega (arith, sum_most n (λ t lt. h t (omega arith)), h n (omega arith), suc-mul n m)

  pub sum_full : (n : ℕ) → ((t : ℕ) → t < n → f t ≤ m) → sum_to n f ≡ n * m → (t : ℕ) → t < n → f t ≡ m
  unfolding sum_to
  sum_full zero h e t lt = absurd (omega arith)
  sum_full (suc n) h e t lt =
      let less : (k : ℕ) → k < n → f k ≤ m = λ k below. h k (omega arith) in
      let most = sum_most n less in
      ⊎_elim
      (λ (same : t ≡ n). rw same (omega (arith, most, h n (omega arith), suc-mul n m)))
      (λ (under : t < n). sum_full n less (omega (arith, most, h n (omega arith), suc-mul n m)) t under)
      (eq-or-lt_of_le (omega arith))

-- a sum whose every term is short by at most a factor times d is short by at most the sum of the factors times d
pub sum_slack : (n : ℕ) (f g w : ℕ → ℕ) (d : ℕ) → ((t : ℕ) → t < n → f t ≤ g t + w t * d) → sum_to n f ≤ sum_to n g + sum_to n w * d
unfolding sum_to
sum_slack zero f g w d h = omega arith
sum_slack (suc n) f g w d h =
    let last : f n ≤ g n + w n * d = h n (omega arith) in
    let rest : sum_to n f ≤ sum_to n g + sum_to n w * d = sum_slack n f g w d (λ t lt. h t (omega arith)) in
    rw add-mul (omega arith)
