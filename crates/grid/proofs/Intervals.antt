-- Every queue from 0 to cap lies in exactly one interval, and queues at most cap in exactly one cell. Assumes nothing.
use Prim.Native.Nat.{ℕ, zero, suc, ◌+◌, ◌*◌, ◌-◌, ◌≤◌, ◌<◌}
use mathlib.Core.List.{List}
use mathlib.Core.Bool.{Bool, true, false}
use mathlib.Core.Path.{◌≡◌, refl, sym, ◌∙◌}
use native.Mathlib.Nat.{mul-le-mul_left, le_refl}
use native.Mathlib.Numerals.{add-one}
use native.Mathlib.Omega.{arith}
use borrow.Author.Tests.{ltb-true, ltb-false, leb-true, leb-false, lt-ltb}
use lib.Dec.{ltb, leb}
use Rattle.certificate.specs.Layout.{links_of, cap_of, intervals_of, cut_of}
use Rattle.certificate.specs.Records.{cut_before}
use Rattle.certificate.specs.Facts.{Readable}
use Rattle.certificate.proofs.Loops.{Found, found, find_least}
use Rattle.grid.specs.Intervals.{is_inner, lower_edge, InInterval, interval_at}
use Rattle.grid.specs.Cells.{number_of, interval_in, InCell, cell_at}
use Rattle.grid.specs.Laws.{Choice, OneInterval, OneCell, Column, ColumnEnds}
use Rattle.grid.proofs.Numbers.{link_by_link, number_same, reads_back, builds_again}
use Rattle.grid.proofs.Edges.{upper_inner, cuts_ascend}

module _ (s : List ℕ) (R : Readable s) (l D x : ℕ) (lt : l < links_of s) where
  -- the queue is below cut i
  abbrev below_cut : ℕ → Bool
  below_cut i = ltb x (D * cut_of s l i)

  first_below : Found (intervals_of s l - 1) below_cut 0 (interval_at s l D x)
  unfolding interval_at
  first_below = found (intervals_of s l - 1) below_cut

  lower_holds : (k : ℕ) → ((j : ℕ) → 0 ≤ j → j < k → below_cut j ≡ false) → D * lower_edge s l k ≤ x
  unfolding cut_before
  lower_holds zero h = omega arith
  lower_holds (suc k) h = ltb-false _ _ (h k (omega arith) (omega arith))

  pub interval_holds : x ≤ D * cap_of s l → InInterval s l (interval_at s l D x) D x
  interval_holds h =
      record {
        exists = omega (arith, first_below.most, (R.grid l lt).count_least);
        lower = lower_holds _ first_below.before;
        upper = λ inner. rw (upper_inner s l _ inner) (ltb-true _ _ (first_below.passes (omega arith)));
        cap = h;
      }

  not_above : (i : ℕ) → InInterval s l i D x → interval_at s l D x ≤ i
  unfolding interval_at
  not_above i I = go (is_inner s l i) refl
    where
      go : (b : Bool) → is_inner s l i ≡ b → interval_at s l D x ≤ i
      go true e =
          let inner : i + 1 < intervals_of s l = ltb-true _ _ e in
          find_least _ below_cut i (lt-ltb _ _ (rw (upper_inner s l i inner) at (I.upper inner)))
      go false e = omega (arith, first_below.most, ltb-false)

  -- a cut that is not above the queue lies before its interval
  not_below : (i : ℕ) → InInterval s l i D x → i ≤ interval_at s l D x
  unfolding cut_before
  not_below zero I = omega arith
  not_below (suc i) I = go (leb (suc i) (interval_at s l D x)) refl
    where
      go : (b : Bool) → leb (suc i) (interval_at s l D x) ≡ b → suc i ≤ interval_at s l D x
      go true e = leb-true _ _ e
      go false e =
          let k : interval_at s l D x ≤ i = omega (arith, leb-false) in
          let inner : i + 1 < intervals_of s l = omega (arith, I.exists) in
          let above : x < D * cut_of s l (interval_at s l D x) = ltb-true _ _ (first_below.passes (omega arith)) in
          let cuts : D * cut_of s l (interval_at s l D x) ≤ D * cut_of s l i = mul-le-mul_left D (cuts_ascend s R l lt _ i k inner) in
          omega (arith, I.lower)

  pub interval_only : (i : ℕ) → InInterval s l i D x → i ≡ interval_at s l D x
  interval_only i I = omega (arith, not_above i I, not_below i I)

pub one_interval : OneInterval
one_interval s R l D x lt d h = (interval_holds s R l D x lt h, interval_only s R l D x lt)

-- the number of intervals that hold the queues is the queues' cell
pub held_cell : (s : List ℕ) (D : ℕ) (x i : ℕ → ℕ) → ((l : ℕ) → l < links_of s → InInterval s l (i l) D (x l)) → InCell s (number_of s i (links_of s)) D x
held_cell s D x i held =
    let choice : Choice s i = λ l lt. (held l lt).exists in
    record {
      exists = (link_by_link s (links_of s)).below i choice;
      holds = λ l lt. rw (reads_back s i choice l lt) (held l lt);
    }

pub one_cell : OneCell
unfolding cell_at
one_cell s R D x d h = (
  held_cell s D x i (λ l lt. interval_holds s R l D (x l) lt (h l lt)),
  λ c C. sym (builds_again s R c C.exists) ∙ number_same s (interval_in s c) i (links_of s) (λ l lt. interval_only s R l D (x l) lt _ (C.holds l lt)),
)
  where
    i : ℕ → ℕ
    i l = interval_at s l D (x l)

-- each number of a column is that of the links so far
column_number : (s : List ℕ) (D : ℕ) (x i n : ℕ → ℕ) → Column s D x i n → (l : ℕ) → l ≤ links_of s → n l ≡ number_of s i l
unfolding number_of
column_number s D x i n C zero le = C.start
column_number s D x i n C (suc l) le = (rw add-one at (C.step l le)) ∙ rw (column_number s D x i n C l (omega arith))

pub column_ends : ColumnEnds
column_ends s D x i n C = rw (column_number s D x i n C (links_of s) (le_refl _)) (held_cell s D x i C.holds)
