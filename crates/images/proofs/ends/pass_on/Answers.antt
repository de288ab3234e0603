use Rattle.std.proofs.Common.{◌*◌, ◌≤◌, arith, refl}
use Rattle.octets.proofs.Fitting.{product_most}
use Rattle.octets.proofs.Picking.{times_same}
use Rattle.screening.proofs.Summing.{summed_more}
use Rattle.supply.proofs.TwoLeast.{sent_two}
use Rattle.images.proofs.PassingOn.{passing_done}
use Rattle.images.proofs.ends.pass_on.Goals as goal

pub loop-t-preserved : goal.loop-t-preserved
loop-t-preserved c =
    let small : c.min-most.result ≤ 1000000 = omega arith in
    summed_more _ _ _ _ _ _ _ _ _ _ _ c.loop-t.invariant c.to_of-to.ensures.1 c.to_of-to.ensures.0
    (times_same _ _ _ _ c.share_of.ensures.0 (sent_two _ _ _ _ _ _ _ _ _ c.requires.5 refl small (omega arith) (omega arith) c.sent_by.ensures.0))
    (product_most 255 1000000 (omega arith) (omega (arith, small)))

pub returns : goal.returns
returns c =
    rw (← c.min-most.ensures) (
    passing_done c.args.certificate.now.bytes.now _ c.args.sender.from c.loop-t.t c.args.sender.end c.args.sender.link (100 * c.min.result) _ c.args.ends.now _
    c.loop-t.invariant (omega arith) (omega arith) (omega arith) (rw c.min.ensures refl)
    )
