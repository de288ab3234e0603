-- `successors::seek::run_link` meets its contract. The loop goes on while every link from k on has its full range.
use Rattle.std.proofs.Common.{◌-◌, ◌≤◌}
use Rattle.successors.specs.Ranges.{FullAfter}
use Rattle.successors.proofs.seek.run_link.Given as goal

abbrev pub invariant-loop-k : goal.invariant-loop-k
invariant-loop-k l = (1 ≤ l.k) × FullAfter l.certificate.bytes.now l.ranges (l.k - 1)
