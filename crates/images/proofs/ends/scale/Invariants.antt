-- `images::ends::scale` meets its contract.
use Rattle.std.proofs.Common.{◌*◌}
use Rattle.supply.specs.Supply.{at}
use Rattle.octets.proofs.FilledTables.{Filled}
use Rattle.images.proofs.ends.scale.Given as goal

abbrev pub invariant-loop-l : goal.invariant-loop-l
invariant-loop-l l = Filled 8 l.l (λ k. 10000 * at l.queues.lower k) l.ends.low × Filled 8 l.l (λ k. 10000 * at l.queues.upper k) l.ends.high
