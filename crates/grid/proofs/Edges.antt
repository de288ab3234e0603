-- Edges of intervals and cells: a lower edge is below its upper one, which is at most cap. Assumes nothing.
use Prim.Native.Nat.{ℕ, zero, suc, ◌+◌, ◌*◌, ◌≤◌, ◌<◌}
use mathlib.Core.List.{List}
use mathlib.Core.Bool.{Bool, true, false}
use mathlib.Core.Path.{◌≡◌, refl}
use mathlib.Core.Logic.{⊎_elim}
use native.Mathlib.Nat.{eq-or-lt_of_le, le_refl}
use native.Mathlib.Omega.{arith}
use borrow.Author.Tests.{ltb-true, ltb-false, lt-ltb, le-ltb}
use Rattle.certificate.specs.Layout.{links_of, cap_of, intervals_of, cut_of}
use Rattle.certificate.specs.Records.{cut_before}
use Rattle.certificate.specs.Facts.{Readable}
use Rattle.grid.specs.Intervals.{is_inner, lower_edge, upper_edge, InInterval}
use Rattle.grid.specs.Cells.{interval_in, lower_of, upper_of, InCell}
use Rattle.grid.specs.Laws.{InClosedCell}
use Rattle.grid.proofs.Numbers.{is_choice}

-- the upper edge of an interval that is not the last, and of the last
pub upper_inner : (s : List ℕ) (l i : ℕ) → i + 1 < intervals_of s l → upper_edge s l i ≡ cut_of s l i
unfolding upper_edge
upper_inner s l i h = rw (lt-ltb (i + 1) (intervals_of s l) h)

pub upper_last : (s : List ℕ) (l i : ℕ) → intervals_of s l ≤ i + 1 → upper_edge s l i ≡ cap_of s l
unfolding upper_edge
upper_last s l i h = rw (le-ltb (i + 1) (intervals_of s l) h)

module _ (s : List ℕ) (R : Readable s) (l : ℕ) (lt : l < links_of s) where
  pub upper_most : (i : ℕ) → upper_edge s l i ≤ cap_of s l
  upper_most i = go (is_inner s l i) refl
    where
      go : (b : Bool) → is_inner s l i ≡ b → upper_edge s l i ≤ cap_of s l
      go true e = let h : i + 1 < intervals_of s l = ltb-true _ _ e in omega (arith, upper_inner s l i h, (R.grid l lt).cut_most i h)
      go false e = omega (arith, upper_last s l i (ltb-false _ _ e))

  -- a cut is above the one before it, and each is below cap
  pub cut_above : (i : ℕ) → i + 1 < intervals_of s l → lower_edge s l i < cut_of s l i
  unfolding cut_before
  cut_above zero h = (R.grid l lt).cut_least 0 h
  cut_above (suc i) h = (R.grid l lt).ascend i (suc i) (omega arith) h

  pub cuts_ascend : (i j : ℕ) → i ≤ j → j + 1 < intervals_of s l → cut_of s l i ≤ cut_of s l j
  cuts_ascend i j le h = ⊎_elim (λ (e : i ≡ j). rw e (le_refl _)) (λ (lt' : i < j). omega (arith, (R.grid l lt).ascend i j lt' h)) (eq-or-lt_of_le le)

  pub lower_most : (i : ℕ) → i < intervals_of s l → lower_edge s l i < cap_of s l
  unfolding cut_before
  lower_most zero h = (R.link l lt).cap_least
  lower_most (suc i) h = (R.grid l lt).cut_most i (omega arith)

  pub lower_below_upper : (i : ℕ) → i < intervals_of s l → lower_edge s l i < upper_edge s l i
  lower_below_upper i h = go (is_inner s l i) refl
    where
      go : (b : Bool) → is_inner s l i ≡ b → lower_edge s l i < upper_edge s l i
      go true e = let inner : i + 1 < intervals_of s l = ltb-true _ _ e in rw (upper_inner s l i inner) (cut_above i inner)
      go false e = rw (upper_last s l i (ltb-false _ _ e)) (lower_most i h)

  -- the same of the edges of a cell
  pub cell_lower_below_upper : (c : ℕ) → lower_of s c l < upper_of s c l
  cell_lower_below_upper c = lower_below_upper (interval_in s c l) (is_choice s R c l lt)

-- an interval holds no queue above its upper edge
pub at_most_upper : (s : List ℕ) (l i D x : ℕ) → InInterval s l i D x → x ≤ D * upper_edge s l i
at_most_upper s l i D x I = go (is_inner s l i) refl
  where
    go : (b : Bool) → is_inner s l i ≡ b → x ≤ D * upper_edge s l i
    go true e = omega (arith, I.upper (ltb-true _ _ e))
    go false e = rw (upper_last s l i (ltb-false _ _ e)) I.cap

-- the queues that a cell holds lie in the closed cell
pub in_closed_cell : (s : List ℕ) (c D : ℕ) (x : ℕ → ℕ) → InCell s c D x → InClosedCell s c D x
in_closed_cell s c D x C l lt = ((C.holds l lt).lower, at_most_upper s l _ D (x l) (C.holds l lt))
