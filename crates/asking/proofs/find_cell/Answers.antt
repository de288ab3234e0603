-- `asking::find_cell` meets its contract.
use Rattle.asking.proofs.Answers.{finds, finds_none}
use Rattle.asking.proofs.find_cell.Goals as goal

pub returns-in-Some : goal.returns-in-Some
returns-in-Some c = finds _ _ _ (rw c.from.ensures at c.in-Some.ensures.0) c.in-Some.ensures.1 c.found_at.ensures

pub returns-in-None : goal.returns-in-None
returns-in-None c = finds_none _ _ _ (rw c.from.ensures at c.in-None.ensures.0) c.refuse.ensures
