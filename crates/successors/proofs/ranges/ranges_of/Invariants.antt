-- `successors::ranges::ranges_of` meets its contract. The loop fills both tables link by link.
use Rattle.std.proofs.Common.{get_or, ℕ, ◌<◌}
use Rattle.successors.specs.Ranges.{IsFirst, IsLast}
use Rattle.successors.proofs.ranges.ranges_of.Given as goal

abbrev pub invariant-loop-l : goal.invariant-loop-l
invariant-loop-l l = (k : ℕ) → k < l.l → IsFirst l.certificate.bytes.now k (get_or l.low k 0) (get_or l.ranges.first k 0) × IsLast l.certificate.bytes.now k (get_or l.high k 0) (get_or l.ranges.last k 0)
