-- Pairs of numbers as tuples compare: by the first number, then by the second. Assumes nothing.
use Rattle.std.proofs.Common.{ℕ, ◌≡◌, refl, Bool, true, false, cond, ◌&&◌, ◌||◌, Some, Less, Equal, Greater, is_lt, nat_cmp}
use Rattle.std.specs.Prelude.{ltb, eqb}
use Rattle.std.specs.Ordering.{is_some_and, partial_ordering_then}
use Rattle.certificate.specs.Records.{pair_below}

-- the order of pairs is that of the first numbers that differ
by_cases : (less same below equal : Bool)
    → is_some_and is_lt (partial_ordering_then (Some (cond less Less (cond same Equal Greater))) (Some (cond below Less (cond equal Equal Greater)))) ≡ (less || (same && below))
by_cases true same below equal = refl
by_cases false true true equal = refl
by_cases false true false true = refl
by_cases false true false false = refl
by_cases false false below equal = refl

pub pairs_compare : (a b c d : ℕ) → is_some_and is_lt (partial_ordering_then (Some (nat_cmp a c)) (Some (nat_cmp b d))) ≡ pair_below a b c d
unfolding pair_below
pairs_compare a b c d = by_cases (ltb a c) (eqb a c) (ltb b d) (eqb b d)
