-- A table that is filled from the front, one entry after another. Assumes nothing.
use Prim.Native.Nat.{ℕ, zero, suc, ◌+◌, ◌<◌}
use mathlib.Core.List.{List, [], ◌∷◌}
use mathlib.Core.Path.{◌≡◌, refl, ap, ◌∙◌}
use native.Mathlib.Omega.{arith}
use borrow.Author.Count.{below_more}
use lib.ListN.{length, get_or, set, length-set}
use lib.Seq.{get_or-set_same, get_or-set_other}
use Rattle.octets.specs.Tables.{Holds, table_from, table_of}

-- the first n entries of a table of any kind have the property P, and one more; past the end stands `none`
pub entries_more : {A : Type 0} (none : A) (P : ℕ → A → Type 0) (n : ℕ) (a : List A) (v : A) → n < length a
    → ((k : ℕ) → k < n → P k (get_or a k none)) → P n v → (k : ℕ) → k < n + 1 → P k (get_or (set a n v) k none)
entries_more none P n a v lt h p =
    below_more (λ k. P k (get_or (set a n v) k none)) n
    (λ k below. rw (get_or-set_other a n k v none (λ z. omega arith)) (h k below))
    (rw (get_or-set_same a n v none lt) p)

-- the same of a table of numbers of that size
abbrev pub Each : ℕ → ℕ → (ℕ → ℕ → Type 0) → List ℕ → Type 0
Each size n P a = (length a ≡ size) × ((k : ℕ) → k < n → P k (get_or a k 0))

pub each_more : (size n : ℕ) (P : ℕ → ℕ → Type 0) (a : List ℕ) (v : ℕ) → Each size n P a → n < size → P n v → Each size (n + 1) P (set a n v)
each_more size n P a v h lt p = (length-set a n v ∙ h.0, entries_more 0 P n a v (omega arith) h.1 p)

-- the entries are those of f
abbrev pub Filled : ℕ → ℕ → (ℕ → ℕ) → List ℕ → Type 0
Filled size n f a = Each size n (λ k v. v ≡ f k) a

pub filled_more : (size n : ℕ) (f : ℕ → ℕ) (a : List ℕ) (v : ℕ) → Filled size n f a → n < size → v ≡ f n → Filled size (n + 1) f (set a n v)
filled_more size n f a v h lt e = each_more size n (λ k v. v ≡ f k) a v h lt e

-- a table is the list of its entries
table_from_lem : (f : ℕ → ℕ) (n i : ℕ) (a : List ℕ) → length a ≡ n → ((k : ℕ) → k < n → get_or a k 0 ≡ f (i + k)) → a ≡ table_from f n i
unfolding table_from
table_from_lem f zero i [] e h = refl
table_from_lem f zero i (x ∷ a) e h = absurd (omega arith)
table_from_lem f (suc n) i [] e h = absurd (omega arith)
table_from_lem f (suc n) i (x ∷ a) e h =
    let first : x ≡ f i = h 0 (omega arith) ∙ ap f (omega arith) in
    let rest : a ≡ table_from f n (i + 1) = table_from_lem f n (i + 1) a (omega arith) (λ k lt. h (suc k) (omega arith) ∙ ap f (omega arith)) in
    cc

pub table_is : (n : ℕ) (f : ℕ → ℕ) (a : List ℕ) → length a ≡ n → Holds n f a → a ≡ table_of n f
table_is n f a e h = table_from_lem f n 0 a e (λ k lt. h k lt ∙ ap f (omega arith))

-- its length and its entries
pub table_length : (f : ℕ → ℕ) (n i : ℕ) → length (table_from f n i) ≡ n
unfolding table_from
table_length f zero i = refl
table_length f (suc n) i = ap suc (table_length f n (i + 1))

pub table_at : (f : ℕ → ℕ) (n i k : ℕ) → k < n → get_or (table_from f n i) k 0 ≡ f (i + k)
unfolding table_from
table_at f zero i k lt = absurd (omega arith)
table_at f (suc n) i zero lt = ap f (omega arith)
table_at f (suc n) i (suc k) lt = table_at f n (i + 1) k (omega arith) ∙ ap f (omega arith)
