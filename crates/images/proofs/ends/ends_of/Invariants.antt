-- `images::ends::ends_of` meets its contract.
use Rattle.supply.specs.Supply.{at}
use Rattle.images.specs.Ends.{EndsSoFar}
use Rattle.images.proofs.ends.ends_of.Given as goal

abbrev pub invariant-loop-l : goal.invariant-loop-l
invariant-loop-l l = EndsSoFar l.certificate.bytes.now (at l.limits) l.queues l.first l.l l.ends
