-- Laws of the combinators by which tests follow one another (specs/Checks.antt). Assumes nothing.
use Prim.Native.Nat.{ℕ, zero, suc, ◌+◌, ◌-◌, ◌≤◌, ◌<◌}
use mathlib.Core.Bool.{Bool, true, false, ◌&&◌, cond, false≢true}
use mathlib.Core.Path.{◌≡◌, refl, sym, ap, ◌∙◌}
use mathlib.Core.Logic.{⊎_elim, ◌⊎◌, inl, inr}
use native.Mathlib.Nat.{eq-or-lt_of_le}
use native.Mathlib.Omega.{arith}
use borrow.Author.Tests.{eqb-true, eqb-false, eq-eqb, ne_eqb}
use lib.Dec.{eqb}
use Rattle.certificate.specs.declared.Report.{Report}
use Rattle.certificate.specs.Octets.{◌also◌}
use Rattle.certificate.specs.Checks.{refusal, fine, need, or_else, first_of, first_from, first_bad}

-- a chain of tests, and each of them
pub and_both : (a b : Bool) → (a && b) ≡ true → (a ≡ true) × (b ≡ true)
and_both true b e = (refl, e)
and_both false b e = absurd (false≢true e)

pub both_and : (a b : Bool) → a ≡ true → b ≡ true → (a && b) ≡ true
both_and a b p q = rw (p, q)

pub also_both : (a b : Bool) → (a also b) ≡ true → (a ≡ true) × (b ≡ true)
unfolding ◌also◌
also_both a b e = and_both a b e

pub both_also : (a b : Bool) → a ≡ true → b ≡ true → (a also b) ≡ true
unfolding ◌also◌
both_also a b p q = both_and a b p q

-- `need` passes exactly where its test holds and what follows passes
pub need_both : (b : Bool) (bad next : Report) → (bad.number ≡ 0 → ⊥) → (need b bad next).number ≡ 0 → (b ≡ true) × (next.number ≡ 0)
unfolding need
need_both true bad next z e = (refl, e)
need_both false bad next z e = absurd (z e)

pub need_pass : (b : Bool) (bad next : Report) → b ≡ true → need b bad next ≡ next
unfolding need
need_pass b bad next e = rw e

pub need_fail : (b : Bool) (bad next : Report) → b ≡ false → need b bad next ≡ bad
unfolding need
need_fail b bad next e = rw e

-- `or_else` goes on exactly where the first passes
pub or_next : (f g : Report) → f.number ≡ 0 → or_else f g ≡ g
unfolding or_else
or_next f g z = rw (eq-eqb f.number 0 z)

pub or_stop : (f g : Report) → (f.number ≡ 0 → ⊥) → or_else f g ≡ f
unfolding or_else
or_stop f g z = rw (ne_eqb f.number 0 z)

pub need_or : (b : Bool) (n o : ℕ) (g : Report) → eqb n 0 ≡ false → or_else (need b (refusal n o) fine) g ≡ need b (refusal n o) g
unfolding need or_else
need_or true n o g z = refl
need_or false n o g z = rw z

-- two refusals of a chain, one after the other
pub need_chain : (f : Report) (b : Bool) (n o : ℕ) (g : Report) → eqb n 0 ≡ false → or_else (or_else f (need b (refusal n o) fine)) g ≡ or_else f (need b (refusal n o) g)
unfolding or_else
need_chain f b n o g z = go (eqb f.number 0) refl
  where
    go : (c : Bool) → eqb f.number 0 ≡ c → or_else (cond c (need b (refusal n o) fine) f) g ≡ cond c (need b (refusal n o) g) f
    go true e = need_or b n o g z
    go false e = rw e

by_number : (b : Bool) (f g : Report) → eqb f.number 0 ≡ b → (or_else f g).number ≡ 0 → (f.number ≡ 0) × (g.number ≡ 0)
unfolding or_else
by_number true f g t e = (eqb-true _ _ t, rw t at e)
by_number false f g t e = absurd (eqb-false _ _ t (rw t at e))

pub or_both : (f g : Report) → (or_else f g).number ≡ 0 → (f.number ≡ 0) × (g.number ≡ 0)
or_both f g e = by_number _ f g refl e

pub both_or : (f g : Report) → f.number ≡ 0 → g.number ≡ 0 → (or_else f g).number ≡ 0
both_or f g p q = rw (or_next f g p) q

-- a result passes or is a refusal
pub passes : (f : Report) → (f.number ≡ 0) ⊎ (f.number ≡ 0 → ⊥)
passes f = go (eqb f.number 0) refl
  where
    go : (b : Bool) → eqb f.number 0 ≡ b → (f.number ≡ 0) ⊎ (f.number ≡ 0 → ⊥)
    go true e = inl (eqb-true _ _ e)
    go false e = inr (eqb-false _ _ e)

-- the first refusal of a loop: one turn, and the end
pub first_turn : (n i : ℕ) (f : ℕ → Report) → i < n → first_from n f i ≡ or_else (f i) (first_from n f (i + 1))
unfolding first_from first_of
first_turn n i f h = let e : n - i ≡ suc (n - (i + 1)) = omega arith in rw e

pub first_end : (n i : ℕ) (f : ℕ → Report) → n ≤ i → first_from n f i ≡ fine
unfolding first_from first_of
first_end n i f h = let e : n - i ≡ 0 = omega arith in rw e

-- every test of a loop that found nothing passes, and the other way round
of_all : (f : ℕ → Report) (m i k : ℕ) → (first_of f m i).number ≡ 0 → i ≤ k → k < i + m → (f k).number ≡ 0
unfolding first_of
of_all f zero i k e p q = absurd (omega arith)
of_all f (suc m) i k e p q =
    let b = or_both (f i) (first_of f m (i + 1)) e in
    ⊎_elim (λ (j : i ≡ k). rw j at b.0) (λ l. of_all f m (i + 1) k b.1 (omega arith) (omega arith)) (eq-or-lt_of_le p)

pub all_fine : (n : ℕ) (f : ℕ → Report) → (first_bad n f).number ≡ 0 → (k : ℕ) → k < n → (f k).number ≡ 0
unfolding first_from
all_fine n f e k h = of_all f (n - 0) 0 k e (omega arith) (omega arith)

-- the loop's answer is `fine` where every test passes
all_of : (f : ℕ → Report) (m i : ℕ) → ((k : ℕ) → i ≤ k → k < i + m → (f k).number ≡ 0) → first_of f m i ≡ fine
unfolding first_of
all_of f zero i h = refl
all_of f (suc m) i h = or_next (f i) (first_of f m (i + 1)) (h i (omega arith) (omega arith)) ∙ all_of f m (i + 1) (λ k p q. h k (omega arith) (omega arith))

pub fine_all : (n : ℕ) (f : ℕ → Report) → ((k : ℕ) → k < n → (f k).number ≡ 0) → first_bad n f ≡ fine
unfolding first_from
fine_all n f h = all_of f (n - 0) 0 (λ k p q. h k (omega arith))

-- the loop's answer is that of the first test that fails
stop_of : (f : ℕ → Report) (m i k : ℕ) → i ≤ k → k < i + m → ((j : ℕ) → i ≤ j → j < k → (f j).number ≡ 0) → ((f k).number ≡ 0 → ⊥) → first_of f m i ≡ f k
unfolding first_of
stop_of f zero i k p q h bad = absurd (omega arith)
stop_of f (suc m) i k p q h bad =
    ⊎_elim
    (λ (e : i ≡ k). rw (← e) (or_stop (f i) (first_of f m (i + 1)) (rw (sym e) at bad)))
    (λ l. or_next (f i) (first_of f m (i + 1)) (h i (omega arith) l) ∙ stop_of f m (i + 1) k (omega arith) (omega arith) (λ j a b. h j (omega arith) b) bad)
    (eq-or-lt_of_le p)

pub first_stop : (n : ℕ) (f : ℕ → Report) (k : ℕ) → k < n → ((j : ℕ) → j < k → (f j).number ≡ 0) → ((f k).number ≡ 0 → ⊥) → first_bad n f ≡ f k
unfolding first_from
first_stop n f k h before bad = stop_of f (n - 0) 0 k (omega arith) (omega arith) (λ j a b. before j b) bad

-- a loop that refuses has a first test that fails
pub record FirstBad (n : ℕ) (f : ℕ → Report) (r : Report) : Type 0 where
  pub at : ℕ
  pub inside : at < n
  pub answer : f at ≡ r
  pub before : (j : ℕ) → j < at → (f j).number ≡ 0

pub first_bad_lem : (n : ℕ) (f : ℕ → Report) → ((first_bad n f).number ≡ 0 → ⊥) → FirstBad n f (first_bad n f)
first_bad_lem n f bad = go n 0 (omega arith) (λ j lt. absurd (omega arith)) refl
  where
    go : (k i : ℕ) → n ≡ i + k → ((j : ℕ) → j < i → (f j).number ≡ 0) → first_bad n f ≡ first_from n f i → FirstBad n f (first_bad n f)
    go zero i e before same =
        let z : first_bad n f ≡ fine = same ∙ first_end n i f (omega arith) in
        absurd (bad (ap (λ (r : Report). r.number) z))
    go (suc k) i e before same =
        let here : first_bad n f ≡ or_else (f i) (first_from n f (i + 1)) = same ∙ first_turn n i f (omega arith) in
        ⊎_elim
        (λ (z : (f i).number ≡ 0). go k (i + 1) (omega arith) (λ j lt. ⊎_elim (λ (q : j ≡ i). rw q z) (λ l. before j l) (eq-or-lt_of_le (let h : j ≤ i = omega arith in h))) (here ∙ or_next _ _ z))
        (λ (z : (f i).number ≡ 0 → ⊥). record { at = i; inside = omega arith; answer = sym (here ∙ or_stop _ _ z); before = before })
        (passes (f i))

-- two loops whose tests agree as long as those before them pass
pub first_same : (n : ℕ) (f g : ℕ → Report) → ((k : ℕ) → k < n → ((j : ℕ) → j < k → (f j).number ≡ 0) → f k ≡ g k) → first_bad n f ≡ first_bad n g
first_same n f g h = ⊎_elim yes' no' (passes (first_bad n f))
  where
    yes' : (first_bad n f).number ≡ 0 → first_bad n f ≡ first_bad n g
    yes' z =
        let pass : (k : ℕ) → k < n → (f k).number ≡ 0 = all_fine n f z in
        let other : (k : ℕ) → k < n → (g k).number ≡ 0 = λ k lt. rw (h k lt (λ j l. pass j (omega arith))) at (pass k lt) in
        fine_all n f pass ∙ sym (fine_all n g other)

    no' : ((first_bad n f).number ≡ 0 → ⊥) → first_bad n f ≡ first_bad n g
    no' z =
        let b = first_bad_lem n f z in
        let same : (j : ℕ) → j < b.at → f j ≡ g j = λ j lt. h j (omega (arith, b.inside)) (λ i l. b.before i (omega arith)) in
        let here : f b.at ≡ g b.at = h b.at b.inside b.before in
        let bad : (g b.at).number ≡ 0 → ⊥ = λ q. z (rw (sym b.answer, here) q) in
        sym b.answer ∙ here ∙ sym (first_stop n g b.at b.inside (λ j lt. rw (same j lt) at (b.before j lt)) bad)
