-- `comparing::front::same_front` meets its contract.
use Rattle.std.proofs.lemmas.Bool.{ne_eqb, eq-eqb}
use Rattle.covering.specs.Covering.{same_front}
use Rattle.comparing.proofs.front.same_front.Goals as goal

pub returns-then-start-t : goal.returns-then-start-t
unfolding same_front
returns-then-start-t c = rw (← c.args.s.now.laid.entries_start_is, ← c.args.t.now.laid.entries_start_is, eq-eqb _ _ c.if-start-t.true) c.agree_before.ensures

pub returns-else-start-t : goal.returns-else-start-t
unfolding same_front
returns-else-start-t c = rw (← c.args.s.now.laid.entries_start_is, ← c.args.t.now.laid.entries_start_is, ne_eqb _ _ c.if-start-t.false)
