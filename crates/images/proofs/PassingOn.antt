-- A link sends: something is taken from its own sum, then the turns add to what is left. Assumes nothing.
use Prim.Native.Nat.{ℕ, ◌+◌, ◌-◌, ◌≤◌, ◌<◌}
use mathlib.Core.List.{List}
use mathlib.Core.Bool.{Bool, true, false}
use mathlib.Core.Path.{◌≡◌, refl}
use native.Mathlib.Omega.{arith}
use borrow.Author.Tests.{eqb-true, eqb-false}
use lib.Dec.{eqb}
use lib.ListN.{length, get_or, set}
use lib.Seq.{get_or-set_same, get_or-set_other}
use Rattle.certificate.specs.Loops.{pick, sum_to}
use Rattle.certificate.specs.Layout.{links_of, to_of}
use Rattle.screening.specs.NetworkParts.{into}
use Rattle.images.specs.Ends.{PassedOn}
use Rattle.screening.proofs.Summing.{Summed}

-- d is taken from link l
taken_at : (xs : List ℕ) (l k d : ℕ) → l < length xs → d ≤ get_or xs l 0 → get_or (set xs l (get_or xs l 0 - d)) k 0 + pick (eqb k l) d 0 ≡ get_or xs k 0
taken_at xs l k d h le = go (eqb k l) refl
  where
    go : (q : Bool) → eqb k l ≡ q → get_or (set xs l (get_or xs l 0 - d)) k 0 + pick q d 0 ≡ get_or xs k 0
    go true q = let here : k ≡ l = eqb-true _ _ q in rw here (omega (arith, get_or-set_same xs l (get_or xs l 0 - d) 0 h))
    go false q = omega (arith, get_or-set_other xs l k (get_or xs l 0 - d) 0 (eqb-false _ _ q))

-- then the turns from `from` up to t add to what is left
abbrev pub Passing : List ℕ → (ℕ → ℕ) → ℕ → List ℕ → ℕ → List ℕ → Type 0
Passing s f from left t sums = Summed (links_of s) (to_of s) f (λ k. sum_to from (into (to_of s) f k)) (λ k. get_or left k 0) 100000000 255000000 t sums

pub passing_done : (s : List ℕ) (f : ℕ → ℕ) (from t end l d e : ℕ) (before after : List ℕ) → Passing s f from (set before l (get_or before l 0 - d)) t after
    → t ≡ end → l < length before → d ≤ get_or before l 0 → d ≡ e → PassedOn s f from end l e before after
passing_done s f from t end l d e before after P et h le ed =
    record {
      adds = λ k hk. rw (← et, ← ed) (omega (arith, P.at k hk, taken_at before l k d h le));
      most = rw (← et) P.fits;
    }
