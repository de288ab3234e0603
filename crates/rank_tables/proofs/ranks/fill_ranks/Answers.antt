use Rattle.rank_tables.proofs.Ranking.{slot_more, ranks_filled}
use Rattle.rank_tables.proofs.ranks.fill_ranks.Goals as goal

pub loop-d-preserved : goal.loop-d-preserved
loop-d-preserved c =
    let I = c.args.index.now in
    slot_more _ _ I.cells_are _ _ _ _ _ c.requires.1 I.cells_most c.loop-d.invariant c.loop-m-test.true c.loop-d-test.true c.rank_at.ensures

pub returns : goal.returns
returns c = ranks_filled _ _ c.args.index.now.cells_are _ _ _ c.requires.2 c.loop-m-test.false c.loop-m.invariant.1
