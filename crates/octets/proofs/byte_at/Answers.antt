-- `octets::byte_at` meets its contract.
use lib.ListN.{get_or-eq_default}
use borrow.Author.Rules.{rules}
use Rattle.octets.proofs.byte_at.Goals as goal

pub returns-else-at-s : goal.returns-else-at-s
returns-else-at-s c = search (get_or-eq_default, rules)
