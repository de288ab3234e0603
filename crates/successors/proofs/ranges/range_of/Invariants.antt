-- `successors::ranges::range_of` meets its contract: each loop counts one more edge.
use Prim.Native.Nat.{◌+◌, ◌≤◌}
use mathlib.Core.Path.{◌≡◌}
use Rattle.certificate.specs.Layout.{max_intervals, intervals_of}
use Rattle.successors.proofs.Ranging.{Passed}
use Rattle.successors.proofs.ranges.range_of.Given as goal

abbrev pub invariant-loop-i : goal.invariant-loop-i
invariant-loop-i l = Passed l.certificate.bytes.now l.l l.low l.first l.i × Passed l.certificate.bytes.now l.l l.high l.last l.i × (l.inner + 1 ≡ intervals_of l.certificate.bytes.now l.l) × (l.inner + 1 ≤ max_intervals)
