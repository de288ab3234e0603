use Rattle.std.proofs.Common.{arith}
use Rattle.reading.proofs.Whole.{reads}
use Rattle.images.proofs.Caps.{lower_most, upper_most}
use Rattle.images.proofs.ends.scale.Goals as goal

pub overflow_mul-ends : goal.overflow_mul-ends
overflow_mul-ends c = omega (arith, lower_most (reads c.args.certificate.now) c.requires c.loop-l.l (omega (arith, c.args.certificate.now.laid.links_are)))

pub overflow_mul-ends-in-loop-l : goal.overflow_mul-ends-in-loop-l
overflow_mul-ends-in-loop-l c = omega (arith, upper_most (reads c.args.certificate.now) c.requires c.loop-l.l (omega (arith, c.args.certificate.now.laid.links_are)))
