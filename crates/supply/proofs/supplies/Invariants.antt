-- `supply::supplies` meets its contract.
use Rattle.supply.specs.Supply.{at, Supplies}
use Rattle.supply.proofs.supplies.Given as goal

abbrev pub invariant-loop-t : goal.invariant-loop-t
invariant-loop-t l =
    Supplies l.certificate.bytes.now (at l.queues.lower) l.from l.t (record { of_turn = l.found.lower.of_turn; two = l.lower })
    × Supplies l.certificate.bytes.now (at l.queues.upper) l.from l.t (record { of_turn = l.found.upper.of_turn; two = l.upper })
