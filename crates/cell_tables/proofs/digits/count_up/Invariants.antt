-- `cell_tables::digits::count_up` meets its contract. The loop's invariant: the links from l on are done, and those before it are to go up by one.
use Rattle.cell_tables.proofs.Counting.{Counted}
use Rattle.cell_tables.proofs.digits.count_up.Given as goal

abbrev pub invariant-loop-l : goal.invariant-loop-l
invariant-loop-l l = Counted l.certificate.bytes.now l.cell l.l l.intervals
