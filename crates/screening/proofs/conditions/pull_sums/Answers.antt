use Rattle.std.proofs.Common.{◌≡◌, arith}
use Rattle.certificate.specs.Layout.{turns_of}
use Rattle.network.specs.Conditions.{pull_sum}
use Rattle.reading.proofs.Whole.{links_most}
use Rattle.screening.proofs.Summing.{summed_zeros, summed_more}
use Rattle.screening.proofs.conditions.pull_sums.Goals as goal

pub loop-t-init : goal.loop-t-init
loop-t-init c = summed_zeros _ _ _ _ (links_most c.args.certificate.now)

pub loop-t-preserved : goal.loop-t-preserved
loop-t-preserved c = summed_more _ _ _ _ _ _ _ _ _ _ _ c.loop-t.invariant c.to_of-to.ensures.1 c.to_of-to.ensures.0 c.green_pull.ensures.0 c.green_pull.ensures.1

pub returns : goal.returns
unfolding pull_sum
returns c = λ l h. let done : c.loop-t.t ≡ turns_of c.args.certificate.now.bytes.now = omega (arith, c.args.certificate.now.laid.turns_are) in rw (← done) (omega (arith, c.loop-t.invariant.at l h))
