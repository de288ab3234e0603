-- Tests that decide a plain condition, and the first index of which a condition fails. Assumes nothing.
use Prim.Native.Nat.{ℕ, zero, suc, ◌≤◌, ◌<◌}
use mathlib.Core.Bool.{Bool, true, false, false≢true}
use mathlib.Core.Path.{◌≡◌, refl}
use mathlib.Core.Logic.{◌↔◌, ◌⊎◌, inl, inr, ⊎_elim}
use native.Mathlib.Nat.{eq-or-lt_of_le}
use native.Mathlib.Omega.{arith}

-- the test b holds exactly where A does
abbrev pub Tells : Bool → Type 0 → Type 0
Tells b A = (b ≡ true) ↔ A

pub tells_false : {A : Type 0} (b : Bool) → Tells b A → (A → ⊥) → b ≡ false
tells_false true t h = absurd (h (t.0 refl))
tells_false false t h = refl

pub tells_split : {A : Type 0} (b : Bool) → Tells b A → A ⊎ (A → ⊥)
tells_split true t = inl (t.0 refl)
tells_split false t = inr (λ a. false≢true (t.1 a))

-- the first index below m of which B holds, where A holds of all before it
pub record First (m : ℕ) (A B : ℕ → Type 0) : Type 0 where
  pub at : ℕ
  pub inside : at < m
  pub before : (j : ℕ) → j < at → A j
  pub bad : B at

-- where each index has A or B: all have A, or there is a first that has B
pub all_or_first : {A B : ℕ → Type 0} (m : ℕ) → ((i : ℕ) → i < m → A i ⊎ B i) → ((i : ℕ) → i < m → A i) ⊎ First m A B
all_or_first {A} {B} zero h = inl (λ i lt. absurd (omega arith))
all_or_first {A} {B} (suc m) h = go (all_or_first m (λ i lt. h i (omega arith)))
  where
    last : ((i : ℕ) → i < m → A i) → A m ⊎ B m → ((i : ℕ) → i < suc m → A i) ⊎ First (suc m) A B
    last all (inl a) = inl (λ i lt. ⊎_elim (λ (q : i ≡ m). rw q a) (λ l. all i l) (eq-or-lt_of_le (let h : i ≤ m = omega arith in h)))
    last all (inr b) = inr (record { at = m; inside = omega arith; before = all; bad = b })

    go : ((i : ℕ) → i < m → A i) ⊎ First m A B → ((i : ℕ) → i < suc m → A i) ⊎ First (suc m) A B
    go (inl all) = last all (h m (omega arith))
    go (inr f) = inr (record { at = f.at; inside = omega (arith, f.inside); before = f.before; bad = f.bad })
