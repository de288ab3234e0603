-- `entry_standing::check_standing` meets its contract.
use mathlib.Core.Path.{◌∙◌}
use Rattle.entry_standing.proofs.EdgeLimits.{above_safe, other_rank, no_fault}
use Rattle.entry_standing.proofs.check_standing.Goals as goal

pub returns-then-not-cell : goal.returns-then-not-cell
returns-then-not-cell c =
    let fits = c.cell_fits-cell.ensures in
    c.refuse_at.ensures ∙ above_safe _ _ _ fits.0 fits.1 c.requires.1 c.if-not-cell.true

pub returns-then-rank-cell : goal.returns-then-rank-cell
returns-then-rank-cell c =
    let fits = c.cell_fits-cell.ensures in
    c.refuse_at-then-rank-cell.ensures ∙ other_rank _ _ _ fits.0 fits.1 c.requires.1 c.if-not-cell.false c.if-rank-cell.true

pub returns : goal.returns
returns c =
    let fits = c.cell_fits-cell.ensures in
    no_fault _ _ _ fits.0 fits.1 c.requires.1 c.if-not-cell.false c.if-rank-cell.false
