-- Whether a number lies between two bounds, as `contains` of a range tells it. Assumes nothing.
use Rattle.std.proofs.Common.{◌≡◌, ℕ, Bool, false, ◌&&◌, arith, ◌∙◌}
use Rattle.std.proofs.Math.Dec.{leb}
use Rattle.std.proofs.lemmas.Bool.Decides.{nat_tests}
use Rattle.std.specs.Ordering.{is_le, nat_cmp}
use Rattle.std.specs.declared.ops.RangeInclusive.{RangeInclusive}
use Rattle.std.specs.Range.{range_inclusive_contains, range_inclusive_start, range_inclusive_end, range_inclusive_exhausted}

at_most : (x y : ℕ) → is_le (nat_cmp x y) ≡ leb x y
at_most x y = grind (arith, nat_tests)

pub between : (b : Bool) (r : RangeInclusive ℕ) (lo hi x : ℕ) → range_inclusive_start r ≡ lo → range_inclusive_end r ≡ hi → range_inclusive_exhausted r ≡ false
    → b ≡ range_inclusive_contains (Rattle.std.specs.contracts.prelude.UsizePartialOrd.TheImpl.partial_cmp-value).it r x → b ≡ (leb lo x && leb x hi)
between b r lo hi x p q e h = h ∙ rw (p, q, e, at_most lo x, at_most x hi)
