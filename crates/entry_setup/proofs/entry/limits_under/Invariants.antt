-- `entry_setup::entry::limits_under` meets its contract.
use Rattle.octets.proofs.FilledTables.{Filled}
use Rattle.entry_setup.specs.Tables.{limit_by}
use Rattle.entry_setup.proofs.entry.limits_under.Given as goal

abbrev pub invariant-loop-l : goal.invariant-loop-l
invariant-loop-l l = Filled 8 l.l (limit_by l.certificate.bytes.now l.before l.byte) l.limits
