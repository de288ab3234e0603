-- `asking::look_up` meets its contract.
use Rattle.std.proofs.Common.{sym, refl, ◌∙◌}
use Rattle.octets.proofs.Outcomes.{need_holds}
use Rattle.asking.specs.FoundEntries.{lookup_of}
use Rattle.asking.proofs.Answers.{turned_back, goes_on, cell_asks}
use Rattle.asking.proofs.look_up.Goals as goal

pub returns-in_err-require : goal.returns-in_err-require
unfolding lookup_of
returns-in_err-require c = rw (← c.is_proper-proper.ensures) (turned_back _ _ _ _ _ _ c.from_residual.ensures.1 c.in_err-require.ensures)

pub cell_at-cell-requires : goal.cell_at-cell-requires
cell_at-cell-requires c = cell_asks _ _ _ (sym c.is_proper-proper.ensures ∙ need_holds _ 15 _ c.in_ok-require.ensures)

pub returns : goal.returns
unfolding lookup_of
returns c = rw (← c.is_proper-proper.ensures, ← c.cell_at-cell.ensures.0) (goes_on _ _ _ _ _ refl c.in_ok-require.ensures c.find_cell.ensures)
