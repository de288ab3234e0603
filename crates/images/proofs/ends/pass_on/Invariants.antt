-- `images::ends::pass_on` meets its contract.
use Rattle.std.proofs.Common.{◌*◌}
use Rattle.certificate.specs.Layout.{share_of}
use Rattle.supply.specs.Supply.{at, sent_by}
use Rattle.images.proofs.PassingOn.{Passing}
use Rattle.images.proofs.ends.pass_on.Given as goal

abbrev pub invariant-loop-t : goal.invariant-loop-t
invariant-loop-t l =
    let s = l.certificate.bytes.now in
    Passing s (λ u. share_of s u * sent_by (at l.own.of_turn) (at l.other.of_turn) l.fn.sender.from l.fn.sender.end l.most u) l.fn.sender.from l.initial.ends l.t l.ends
