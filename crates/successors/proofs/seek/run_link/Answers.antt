use Rattle.std.proofs.Common.{◌-◌, arith}
use Rattle.reading.proofs.Whole.{intervals_most}
use Rattle.successors.proofs.seek.run_link.Goals as goal

pub overflow_add-ranges : goal.overflow_add-ranges
overflow_add-ranges c =
    let exists = c.loop-k.invariant.1.exists in
    omega (arith, c.requires.1.last_most (c.loop-k.k - 1) exists, intervals_most c.args.certificate.now (c.loop-k.k - 1) exists)
