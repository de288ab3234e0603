-- `rank_tables::ranks::rank_at` meets its contract.
use Rattle.rank_tables.proofs.Ranking.{rank_absent, rank_listed}
use Rattle.rank_tables.proofs.ranks.rank_at.Goals as goal

pub returns-in-Some : goal.returns-in-Some
returns-in-Some c = rank_listed _ _ _ _ _ c.in-Some.ensures.0 c.in-Some.ensures.1 c.rank_of.ensures.0

pub returns-in-None : goal.returns-in-None
returns-in-None c = rank_absent _ _ _ c.in-None.ensures.0
