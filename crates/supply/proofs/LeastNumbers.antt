-- The least of a bound and some numbers: one number more, numbers that agree, and numbers that do not count. Assumes nothing.
use Prim.Native.Nat.{ℕ, zero, suc, ◌+◌, ◌≤◌, ◌<◌, min}
use mathlib.Core.Bool.{Bool, true, false}
use mathlib.Core.Path.{◌≡◌, refl, sym, ◌∙◌}
use mathlib.Core.Logic.{⊎_elim}
use native.Mathlib.Nat.{eq-or-lt_of_le}
use native.Mathlib.Numerals.{add-one}
use native.Mathlib.Omega.{arith}
use borrow.Author.Tests.{le-leb, lt-leb}
use lib.Dec.{leb}
use Rattle.certificate.specs.Loops.{pick}
use Rattle.network.specs.Flow.{least_to}

-- a number that counts, and one that does not
pub least_in : (n : ℕ) (p : ℕ → Bool) (f : ℕ → ℕ) (b : ℕ) → p n ≡ true → least_to (n + 1) p f b ≡ min (f n) (least_to n p f b)
unfolding least_to
least_in n p f b e = rw (add-one, e)

pub least_out : (n : ℕ) (p : ℕ → Bool) (f : ℕ → ℕ) (b : ℕ) → p n ≡ false → least_to (suc n) p f b ≡ least_to n p f b
unfolding least_to
least_out n p f b e = rw e

-- the same numbers count, and they agree
pub least_same : (n : ℕ) (p q : ℕ → Bool) (f g : ℕ → ℕ) (b : ℕ) → ((t : ℕ) → t < n → p t ≡ q t) → ((t : ℕ) → t < n → p t ≡ true → f t ≡ g t)
    → least_to n p f b ≡ least_to n q g b
unfolding least_to
least_same zero p q f g b hp hf = refl
least_same (suc n) p q f g b hp hf =
    go (p n) refl (sym (hp n (omega arith))) (least_same n p q f g b (λ t lt. hp t (omega arith)) (λ t lt. hf t (omega arith)))
  where
    go : (k : Bool) → p n ≡ k → q n ≡ p n → least_to n p f b ≡ least_to n q g b
        → pick (p n) (min (f n) (least_to n p f b)) (least_to n p f b) ≡ pick (q n) (min (g n) (least_to n q g b)) (least_to n q g b)
    go true e s rest = rw (s, e, rest, hf n (omega arith) e)
    go false e s rest = rw (s, e, rest)

-- numbers from k on do not count
pub least_skip : (k n : ℕ) (p : ℕ → Bool) (f : ℕ → ℕ) (b : ℕ) → k ≤ n → ((t : ℕ) → k ≤ t → t < n → p t ≡ false) → least_to n p f b ≡ least_to k p f b
least_skip k zero p f b h none = let e : k ≡ 0 = omega arith in rw e
least_skip k (suc n) p f b h none =
    ⊎_elim
    (λ (e : k ≡ suc n). rw e)
    (λ (l : k < suc n). least_out n p f b (none n (omega arith) (omega arith)) ∙ least_skip k n p f b (omega arith) (λ t a c. none t a (omega arith)))
    (eq-or-lt_of_le h)

-- a loop over the numbers from k on: where it begins, and one number more
pub least_start : (k : ℕ) (f : ℕ → ℕ) (b : ℕ) → b ≡ least_to k (leb k) f b
unfolding least_to
least_start k f b = sym (least_skip 0 k (leb k) f b (omega arith) (λ t le lt. lt-leb k t lt))

pub least_more : (k u : ℕ) (f : ℕ → ℕ) (b least v r : ℕ) → least ≡ least_to u (leb k) f b → k ≤ u → v ≡ f u → r ≡ min v least → r ≡ least_to (u + 1) (leb k) f b
least_more k u f b least v r same le ev er = er ∙ rw (ev, same) (sym (least_in u (leb k) f b (le-leb k u le)))
