-- `entry_setup::entry::bound_for` meets its contract.
use borrow.Author.Tests.{eq-eqb, ne_eqb}
use Rattle.entry_setup.specs.Tables.{bound_for}
use Rattle.entry_setup.proofs.entry.bound_for.Goals as goal

pub returns-then-rank-eq0 : goal.returns-then-rank-eq0
unfolding bound_for
returns-then-rank-eq0 c = rw (eq-eqb c.args.rank 0 c.if-rank-eq0.true)

pub returns : goal.returns
unfolding bound_for
returns c = rw (ne_eqb c.args.rank 0 c.if-rank-eq0.false)
