-- `signal_records::signals::is_green` meets its contract.
use borrow.Author.Rules.{rules}
use Rattle.certificate.specs.Octets.{bit_of}
use Rattle.signal_records.proofs.signals.is_green.Goals as goal

pub returns : goal.returns
unfolding bit_of
returns c = search rules
