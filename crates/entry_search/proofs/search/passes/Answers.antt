-- `entry_search::search::passes` meets its contract.
use Rattle.std.proofs.Common.{arith}
use Rattle.entry_search.proofs.Successors.{passes_is}
use Rattle.entry_search.proofs.search.passes.Goals as goal

pub returns : goal.returns
returns c = passes_is c.args.entry.now _ _ c.rank_at-v.ensures (omega (arith, c.rank_at-v.type_inv))
