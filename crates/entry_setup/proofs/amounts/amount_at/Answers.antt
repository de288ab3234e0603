-- `entry_setup::amounts::amount_at` meets its contract.
use Rattle.entry_setup.specs.Tables.{arrival_entry}
use Rattle.entry_setup.proofs.amounts.amount_at.Goals as goal

pub returns : goal.returns
unfolding arrival_entry
returns c = cc
