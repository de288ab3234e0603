-- `header_record::takes_turns` meets its contract.
use Rattle.header_record.proofs.KindBytes.{kind_with_turns}
use Rattle.header_record.proofs.takes_turns.Goals as goal

pub returns : goal.returns
returns c = rw (c.takes_turns.ensures, c.of.ensures) (kind_with_turns c.args.s.now)
