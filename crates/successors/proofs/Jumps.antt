-- Which cells lie in ranges: told by their intervals. Assumes nothing.
use Prim.Native.Nat.{ℕ, zero, suc, ◌+◌, ◌-◌, ◌≤◌, ◌<◌}
use mathlib.Core.List.{List}
use mathlib.Core.Bool.{Bool, true, false, ◌&&◌, false≢true}
use mathlib.Core.Path.{◌≡◌, refl, sym, ◌∙◌}
use mathlib.Core.Logic.{⊎_elim}
use native.Mathlib.Omega.{arith}
use borrow.Author.Tests.{lt-leb}
use lib.ListN.{get_or}
use lib.Dec.{leb}
use Rattle.std.specs.List.{list_all, range_with_len}
use Rattle.certificate.specs.Loops.{every_of, every_from, every}
use Rattle.certificate.specs.Layout.{links_of}
use Rattle.certificate.proofs.Loops.{every-each}
use Rattle.grid.specs.Cells.{interval_in}
use Rattle.successors.specs.declared.ranges.Ranges.{Ranges}
use Rattle.successors.specs.Ranges.{in_ranges}
use Rattle.successors.proofs.Ranging.{below_or}

-- a test that fails at one index does not hold of all
every_fails : (n : ℕ) (p : ℕ → Bool) (k : ℕ) → k < n → p k ≡ false → every n p ≡ false
every_fails n p k lt e = go (every n p) refl
  where
    go : (b : Bool) → every n p ≡ b → b ≡ false
    go true h = absurd (false≢true (sym e ∙ every-each n p h k lt))
    go false h = refl

and_left : (a b : Bool) → a ≡ false → (a && b) ≡ false
and_left a b e = rw e

and_right : (a b : Bool) → b ≡ false → (a && b) ≡ false
and_right true b e = e
and_right false b e = refl

module _ (s : List ℕ) (ranges : Ranges) where
  pub too_low : (c l : ℕ) → l < links_of s → interval_in s c l < get_or ranges.first l 0 → in_ranges s ranges c ≡ false
  unfolding in_ranges
  too_low c l lt h = every_fails (links_of s) _ l lt (and_left _ _ (lt-leb _ _ h))

  pub too_high : (c l : ℕ) → l < links_of s → get_or ranges.last l 0 < interval_in s c l → in_ranges s ranges c ≡ false
  unfolding in_ranges
  too_high c l lt h = every_fails (links_of s) _ l lt (and_right (leb (get_or ranges.first l 0) (interval_in s c l)) _ (lt-leb _ _ h))

  -- where the range of a link is empty, no cell does
  pub none_in : (l : ℕ) → l < links_of s → get_or ranges.last l 0 < get_or ranges.first l 0 → (c : ℕ) → in_ranges s ranges c ≡ false
  none_in l lt h c =
      ⊎_elim
      (λ a. too_low c l lt a)
      (λ (b : get_or ranges.first l 0 ≤ interval_in s c l). too_high c l lt (omega arith))
      (below_or (interval_in s c l) (get_or ranges.first l 0))
