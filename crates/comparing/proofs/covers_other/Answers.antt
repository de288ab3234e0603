-- `comparing::covers_other` meets its contract.
use Rattle.covering.specs.Covering.{covers}
use Rattle.comparing.proofs.covers_other.Goals as goal

pub returns-then-same_front : goal.returns-then-same_front
unfolding covers
returns-then-same_front c = rw (← c.same_front.ensures, c.if-same_front.true) c.all_matched.ensures

pub returns-else-same_front : goal.returns-else-same_front
unfolding covers
returns-else-same_front c = rw (← c.same_front.ensures, c.if-same_front.false)
