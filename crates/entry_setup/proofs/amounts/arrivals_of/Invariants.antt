-- `entry_setup::amounts::arrivals_of` meets its contract.
use Rattle.octets.proofs.FilledTables.{Filled}
use Rattle.entry_setup.specs.Tables.{arrival_entry}
use Rattle.entry_setup.proofs.amounts.arrivals_of.Given as goal

abbrev pub invariant-loop-k : goal.invariant-loop-k
invariant-loop-k l = Filled 128 l.k (arrival_entry l.arrivals.bytes.now) l.amounts
