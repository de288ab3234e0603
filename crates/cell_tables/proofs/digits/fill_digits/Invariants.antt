-- `cell_tables::digits::fill_digits` meets its contract. The loop fills the table cell by cell; at each cell `intervals` has its intervals.
use Prim.Native.Nat.{◌*◌}
use Rattle.cell_tables.proofs.Counting.{Row}
use Rattle.cell_tables.proofs.Filling.{FilledTo}
use Rattle.cell_tables.proofs.digits.fill_digits.Given as goal

abbrev pub invariant-loop-c : goal.invariant-loop-c
invariant-loop-c l = FilledTo l.certificate.bytes.now (8 * l.c) l.digits × Row l.certificate.bytes.now l.c l.intervals
