-- Exact fractions: a whole number over a scale of at least 1, both of any size; two are compared by cross products.
use Rattle.std.specs.Prelude.{ℕ, zero, suc, ◌*◌, ◌≤◌, List, [], ◌∷◌, get_or}

pub record Fraction : Type 0 where
  pub num : ℕ
  pub den : ℕ

-- the fraction for link l, 0 past the end of the list
abbrev pub fraction_at : List Fraction → ℕ → Fraction
fraction_at fs l = get_or fs l (record { num = 0; den = 1 })

-- the fraction is at least the whole number n
abbrev pub AtLeast : Fraction → ℕ → Type 0
AtLeast f n = n * f.den ≤ f.num

-- the fraction is at most the whole number n
abbrev pub AtMost : Fraction → ℕ → Type 0
AtMost f n = f.num ≤ n * f.den

-- one scale for all fractions of a list: the product of their scales
unfoldable pub scale_of : List Fraction → ℕ
scale_of [] = 1
scale_of (f ∷ fs) = f.den * scale_of fs

-- the fraction for link l, brought to that scale
unfoldable pub over_scale : List Fraction → ℕ → ℕ
over_scale [] l = 0
over_scale (f ∷ fs) zero = f.num * scale_of fs
over_scale (f ∷ fs) (suc l) = f.den * over_scale fs l
