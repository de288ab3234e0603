-- `header_record::has_memory` meets its contract.
use Rattle.header_record.proofs.KindBytes.{kind_with_memory}
use Rattle.header_record.proofs.has_memory.Goals as goal

pub returns : goal.returns
returns c = rw (c.has_memory.ensures, c.of.ensures) (kind_with_memory c.args.s.now)
