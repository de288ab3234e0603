-- `turn_records::turns::Turns::share_total` meets its contract.
use mathlib.Core.Path.{sym, ◌∙◌}
use Rattle.turn_records.proofs.TurnTotals.{share_first, share_same, share_new}
use Rattle.turn_records.proofs.turns.Turns.share_total.Goals as goal

pub returns-then-t-eq0 : goal.returns-then-t-eq0
returns-then-t-eq0 c = λ up. c.share_within-share.ensures.0 ∙ share_first _ _ c.if-t-eq0.true

pub returns-then-from_within : goal.returns-then-from_within
returns-then-from_within c = λ up. rw c.share_within-share.ensures.0 (share_same _ c.requires.2 c.if-t-eq0.false (sym c.from_within.ensures.0 ∙ c.if-from_within.true ∙ c.from_within-2.ensures.0))

pub returns : goal.returns
returns c = λ up. c.share_within-share.ensures.0 ∙ share_new _ c.requires.2 c.if-t-eq0.false (λ e. c.if-from_within.false (c.from_within.ensures.0 ∙ e ∙ sym c.from_within-2.ensures.0)) up
