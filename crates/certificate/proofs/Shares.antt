-- Of numbers that belong to links, each running total of one link is at most m exactly if each link's whole total is. Assumes nothing.
use Prim.Native.Nat.{ℕ, zero, suc, ◌+◌, ◌≤◌, ◌<◌}
use mathlib.Core.Bool.{Bool, true, false}
use mathlib.Core.Path.{◌≡◌, refl}
use mathlib.Core.Logic.{◌↔◌}
use native.Mathlib.Numerals.{add-one}
use native.Mathlib.Nat.{le_trans}
use native.Mathlib.Omega.{arith}
use borrow.Author.Tests.{eqb-true}
use lib.Dec.{eqb}
use Rattle.certificate.specs.Loops.{pick, sum_to}
use Rattle.certificate.proofs.Ascending.{grows}

-- what the first n numbers of link l total
abbrev pub total : (ℕ → ℕ) → (ℕ → ℕ) → ℕ → ℕ → ℕ
total link share l n = sum_to n (λ u. pick (eqb (link u) l) (share u) 0)

module _ (link share : ℕ → ℕ) (m : ℕ) where
  -- the last number of link l bears the whole total of l; if there is none, the total is 0
  whole : (n l : ℕ) → ((t : ℕ) → t < n → total link share (link t) (t + 1) ≤ m) → total link share l n ≤ m
  unfolding sum_to
  whole zero l h = omega arith
  whole (suc n) l h = go (eqb (link n) l) refl (whole n l (λ t lt. h t (omega arith)))
    where
      go : (q : Bool) → eqb (link n) l ≡ q → total link share l n ≤ m → total link share l n + pick q (share n) 0 ≤ m
      go true e rest = rw e at (rw (eqb-true (link n) l e, add-one) at (h n (omega arith)))
      go false e rest = omega arith

  pub totals_say : (n : ℕ) → ((t : ℕ) → t < n → total link share (link t) (t + 1) ≤ m) ↔ ((l : ℕ) → total link share l n ≤ m)
  unfolding sum_to
  totals_say n = (λ h l. whole n l h, λ h t lt. le_trans (grows (total link share (link t)) (λ k. omega arith) (t + 1) n (omega arith)) (h (link t)))
