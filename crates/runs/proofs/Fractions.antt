-- Bringing fractions to one scale keeps each of them and its bounds, and the scale is at least 1. Assumes nothing.
use Prim.Native.Nat.{ℕ, zero, suc, ◌*◌, ◌≤◌, ◌<◌}
use mathlib.Core.List.{List, [], ◌∷◌}
use mathlib.Core.Path.{◌≡◌, sym}
use native.Mathlib.Nat.{mul_assoc, mul_comm, mul_left_comm, mul_right_comm, mul-pos, mul-le-mul_right, le_of_mul-le-mul_right}
use native.Mathlib.Omega.{arith}
use lib.ListN.{length}
use Rattle.runs.specs.Fractions.{Fraction, fraction_at, AtLeast, AtMost, scale_of, over_scale}
use Rattle.runs.specs.Laws.{KeepsFractions, ScalePositive}

pub keeps_fractions : KeepsFractions
unfolding scale_of over_scale
keeps_fractions [] l h = absurd (omega arith)
keeps_fractions (f ∷ fs) zero h = cc (mul_assoc f.num (scale_of fs) f.den, mul_comm (scale_of fs) f.den)
keeps_fractions (f ∷ fs) (suc l) h =
    let g : Fraction = fraction_at fs l in
    cc (mul_assoc f.den (over_scale fs l) g.den, keeps_fractions fs l (omega arith), mul_left_comm f.den g.num (scale_of fs))

pub scale_positive : ScalePositive
unfolding scale_of
scale_positive [] h = omega arith
scale_positive (f ∷ fs) h = mul-pos (h zero (omega arith)) (scale_positive fs (λ l lt. h (suc l) (omega arith)))

-- the same, where the list has one fraction a link
pub scale_least : (fs : List Fraction) (links : ℕ) → length fs ≡ links → ((l : ℕ) → l < links → 1 ≤ (fraction_at fs l).den) → 1 ≤ scale_of fs
scale_least fs links count h = scale_positive fs (λ l lt. h l (rw (sym count) lt))

-- a fraction's whole bounds, times the common scale, are bounds of it over that scale
module _ (fs : List Fraction) (l n : ℕ) (lt : l < length fs) (den : 1 ≤ (fraction_at fs l).den) where
  pub keeps_low : AtLeast (fraction_at fs l) n → n * scale_of fs ≤ over_scale fs l
  keeps_low h = le_of_mul-le-mul_right (rw (keeps_fractions fs l lt, mul_right_comm) (mul-le-mul_right (scale_of fs) h)) den

  pub keeps_high : AtMost (fraction_at fs l) n → over_scale fs l ≤ n * scale_of fs
  keeps_high h = le_of_mul-le-mul_right (rw (keeps_fractions fs l lt, mul_right_comm) (mul-le-mul_right (scale_of fs) h)) den
