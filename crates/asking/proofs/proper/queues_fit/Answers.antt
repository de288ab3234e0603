-- `asking::proper::queues_fit` meets its contract.
use Rattle.std.proofs.Common.{rules, tests, ◌*◌, leb, length}
use Rattle.certificate.specs.Layout.{cap_of}
use Rattle.judging.specs.Asking.{queue_at}
use Rattle.octets.proofs.Ranges.{all_below}
use Rattle.asking.proofs.proper.queues_fit.Goals as goal

pub returns : goal.returns
returns c =
    let a = c.args in
    rw (← c.requires) (all_below (λ l. leb (queue_at a.queues.now l) (cap_of a.certificate.now.bytes.now l * a.scale)) (length a.queues.now) (cc) (λ x b q k. search (rules, tests)) c.all.ensures.ran)
