-- `octets::record_result` meets its contract.
use borrow.Author.Tests.{not-true, not-false}
use Rattle.octets.proofs.Cases.{first, second, pass, fail}
use Rattle.octets.proofs.record_result.Goals as goal

pub returns-then-opening-ne0 : goal.returns-then-opening-ne0
returns-then-opening-ne0 c = search first

pub returns-then-not-ok : goal.returns-then-not-ok
returns-then-not-ok c = search (second, fail, not-true)

pub returns : goal.returns
returns c = search (second, pass, not-false)
