-- `turn_records::turns::Turns::ascends` meets its contract.
use mathlib.Core.Path.{◌∙◌}
use Rattle.turn_records.proofs.Pairs.{pairs_compare}
use Rattle.turn_records.proofs.TurnTotals.{turn_first, turn_after}
use Rattle.turn_records.proofs.turns.Turns.ascends.Goals as goal

pub returns-then-t-eq0 : goal.returns-then-t-eq0
returns-then-t-eq0 c = search turn_first

pub returns : goal.returns
returns c =
    c.lt.ensures ∙ pairs_compare c.from_within.result c.to_within.result c.from_within-2.result c.to_within-2.result
    ∙ rw (c.from_within.ensures.0, c.to_within.ensures.0, c.from_within-2.ensures.0, c.to_within-2.ensures.0) (turn_after _ _ c.if-t-eq0.false)
