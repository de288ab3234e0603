use Rattle.std.proofs.Common.{ℕ, suc, ◌+◌, ◌-◌, ◌≤◌, ◌<◌, List, ◌≡◌, arith, get_or, set}
use Rattle.certificate.specs.Facts.{Readable}
use Rattle.certificate.specs.Layout.{max_intervals, intervals_of}
use Rattle.reading.proofs.Whole.{reads}
use Rattle.cell_tables.specs.Tables.{CountsOf}
use Rattle.cell_tables.proofs.Counting.{Row, Counted, interval_small, count_start, count_stop, count_on}
use Rattle.cell_tables.proofs.digits.count_up.Goals as goal

-- the last of the l links that are to do: its interval in the table x is small; it goes up, or is 0 again, by its count
module _ (s counts : List ℕ) (R : Readable s) (C : CountsOf s counts) (cell l : ℕ) (x : List ℕ) (some : 0 < l) (inv : Counted s cell l x) where
  here : Counted s cell (suc (l - 1)) x
  here = let e : l ≡ suc (l - 1) = omega arith in rw e at inv

  count : get_or counts (l - 1) 0 ≡ intervals_of s (l - 1)
  count = C (l - 1) (omega (arith, inv.most))

  small : get_or x (l - 1) 0 < max_intervals
  small = interval_small s R cell (l - 1) x here

  goes_up : get_or x (l - 1) 0 + 1 < get_or counts (l - 1) 0 → Row s (cell + 1) (set x (l - 1) (get_or x (l - 1) 0 + 1))
  goes_up lt = count_stop s R cell (l - 1) x here (omega (arith, count))

  is_zero : get_or counts (l - 1) 0 ≤ get_or x (l - 1) 0 + 1 → Counted s cell (l - 1) (set x (l - 1) 0)
  is_zero le = count_on s R cell (l - 1) x here (omega (arith, count))

pub loop-l-init : goal.loop-l-init
loop-l-init c = count_start c.args.certificate.now.bytes.now (reads c.args.certificate.now) c.args.cell _ _ c.args.certificate.now.laid.links_are c.told-intervals c.requires.1

pub overflow_add-i : goal.overflow_add-i
overflow_add-i c = omega (arith, small _ _ (reads c.args.certificate.now) c.requires.0 _ _ _ (omega arith) c.loop-l.invariant)

pub returns-then-from-counts : goal.returns-then-from-counts
returns-then-from-counts c = goes_up _ _ (reads c.args.certificate.now) c.requires.0 _ _ _ (omega arith) c.loop-l.invariant (omega arith)

pub loop-l-preserved : goal.loop-l-preserved
loop-l-preserved c = is_zero _ _ (reads c.args.certificate.now) c.requires.0 _ _ _ (omega arith) c.loop-l.invariant (omega arith)
