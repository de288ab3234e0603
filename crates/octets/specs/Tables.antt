-- Tables that the code fills, as lists.
use Rattle.std.specs.Prelude.{ℕ, zero, suc, ◌+◌, ◌<◌, List, [], ◌∷◌, ◌≡◌, get_or}

-- the table a holds f 0 .. f (n - 1)
abbrev pub Holds : ℕ → (ℕ → ℕ) → List ℕ → Type 0
Holds n f a = (k : ℕ) → k < n → get_or a k 0 ≡ f k

-- the table of n entries f i, f (i + 1), ..
unfoldable pub table_from : (ℕ → ℕ) → ℕ → ℕ → List ℕ
table_from f zero i = []
table_from f (suc n) i = f i ∷ table_from f n (i + 1)

-- the table of f 0 .. f (n - 1)
abbrev pub table_of : ℕ → (ℕ → ℕ) → List ℕ
table_of n f = table_from f n 0
