-- `asking::ask` meets its contract.
use Rattle.std.proofs.Common.{refl}
use Rattle.asking.specs.FoundEntries.{asked_of, held_fault}
use Rattle.asking.proofs.Answers.{turned_back, goes_on}
use Rattle.asking.proofs.ask.Goals as goal

pub returns-in_err-certificate : goal.returns-in_err-certificate
unfolding asked_of held_fault
returns-in_err-certificate c = turned_back _ _ _ _ _ _ c.from_residual.ensures.1 c.in_err-certificate.ensures.told_is

pub returns : goal.returns
unfolding asked_of held_fault
returns c = goes_on _ _ _ _ _ refl c.in_ok-certificate.ensures.told_is (rw c.in_ok-certificate.ensures.bytes_are at c.look_up.ensures)
