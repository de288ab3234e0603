-- `entry_search::search::check_successor` meets its contract.
use Rattle.std.proofs.Common.{arith, ◌∙◌}
use Rattle.entry_search.proofs.Successors.{is_unlisted, is_higher, is_met}
use Rattle.entry_search.proofs.search.check_successor.Goals as goal

pub returns-then-v-eq0 : goal.returns-then-v-eq0
returns-then-v-eq0 c = c.refuse_at.ensures ∙ is_unlisted c.args.entry.now _ _ c.rank_at-v.ensures (omega (arith, c.rank_at-v.type_inv)) c.if-v-eq0.true _

pub returns-then-v-entry : goal.returns-then-v-entry
returns-then-v-entry c = c.refuse_at-then-v-entry.ensures ∙ is_higher c.args.entry.now _ _ c.rank_at-v.ensures (omega (arith, c.rank_at-v.type_inv)) c.if-v-eq0.false c.if-v-entry.true _

pub returns : goal.returns
returns c = is_met c.args.entry.now _ _ c.rank_at-v.ensures (omega (arith, c.rank_at-v.type_inv)) c.if-v-eq0.false c.if-v-entry.false _
