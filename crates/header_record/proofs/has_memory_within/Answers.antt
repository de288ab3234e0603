-- `header_record::has_memory_within` meets its contract.
use Rattle.header_record.proofs.KindBytes.{kind_with_memory}
use Rattle.header_record.proofs.has_memory_within.Goals as goal

pub returns : goal.returns
returns c = rw (c.has_memory.ensures, c.of_within.ensures) (kind_with_memory c.args.s.now)
