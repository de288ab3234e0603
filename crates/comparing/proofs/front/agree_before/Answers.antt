-- `comparing::front::agree_before` meets its contract.
use Rattle.std.proofs.Common.{rules, tests}
use Rattle.covering.specs.Covering.{byte_agrees}
use Rattle.octets.proofs.Ranges.{all_below}
use Rattle.comparing.proofs.front.agree_before.Goals as goal

pub returns : goal.returns
unfolding byte_agrees
returns c = all_below (byte_agrees c.args.s.now c.args.t.now) c.args.n (cc) (λ x b q k. search (rules, tests)) c.all.ensures.ran
