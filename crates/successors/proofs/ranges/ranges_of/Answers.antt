use Rattle.std.proofs.Common.{arith}
use Rattle.successors.proofs.Ranging.{range_meets}
use Rattle.successors.proofs.ranges.ranges_of.Goals as goal

pub returns : goal.returns
returns c = range_meets _ _ _ _ (λ k lt. (c.loop-l.invariant k (omega (arith, c.args.certificate.now.laid.links_are))).0) (λ k lt. (c.loop-l.invariant k (omega (arith, c.args.certificate.now.laid.links_are))).1)
