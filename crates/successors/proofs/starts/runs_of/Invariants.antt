-- `successors::starts::runs_of` meets its contract. The loops go on while the list has the numbers so far of l links.
use Rattle.successors.proofs.Lists.{Listing}
use Rattle.successors.proofs.starts.runs_of.Given as goal

abbrev pub invariant-loop-l : goal.invariant-loop-l
invariant-loop-l l = Listing l.certificate.bytes.now l.ranges l.run l.l l.count 1 l.starts

abbrev pub invariant-loop-l-2 : goal.invariant-loop-l-2
invariant-loop-l-2 l = Listing l.certificate.bytes.now l.ranges l.run l.l l.count l.size l.starts
