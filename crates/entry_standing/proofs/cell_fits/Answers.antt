use mathlib.Core.Path.{refl}
use Rattle.judging.specs.EntryTests.{is_safe, is_goal}
use Rattle.entry_standing.proofs.EdgeLimits.{edges_from, edges_more, edges_end, goal_in_row}
use Rattle.entry_standing.proofs.cell_fits.Goals as goal

pub loop-l-init : goal.loop-l-init
unfolding is_safe is_goal edges_from
loop-l-init c = (refl, refl)

pub loop-l-preserved : goal.loop-l-preserved
loop-l-preserved c = (search edges_more, search (edges_more, goal_in_row))

pub returns : goal.returns
returns c = (search edges_end, search edges_end)
