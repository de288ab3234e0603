-- `comparing::matching::first_at` meets its contract.
use Rattle.comparing.specs.Walk.{KeysBelow}
use Rattle.comparing.proofs.matching.first_at.Given as goal

abbrev pub invariant-loop-k : goal.invariant-loop-k
invariant-loop-k l = KeysBelow l.certificate.bytes.now l.k l.key
