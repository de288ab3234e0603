-- `entry_setup::entry::byte_before` meets its contract.
use Rattle.entry_setup.proofs.EntryEnds.{own_byte}
use Rattle.entry_setup.proofs.entry.byte_before.Goals as goal

pub returns-then-not-has_memory : goal.returns-then-not-has_memory
returns-then-not-has_memory c = search own_byte
