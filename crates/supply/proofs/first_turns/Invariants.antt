-- `supply::first_turns` meets its contract.
use lib.Dec.{leb}
use Rattle.certificate.specs.Loops.{find}
use Rattle.certificate.specs.Layout.{turns_of, from_of}
use Rattle.octets.proofs.FilledTables.{Filled}
use Rattle.supply.proofs.first_turns.Given as goal

abbrev pub invariant-loop-j : goal.invariant-loop-j
invariant-loop-j l = Filled 9 l.j (λ k. find (turns_of l.certificate.bytes.now) (λ t. leb k (from_of l.certificate.bytes.now t))) l.first
