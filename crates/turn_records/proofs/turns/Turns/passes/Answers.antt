-- `turn_records::turns::Turns::passes` meets its contract.
use Rattle.turn_records.proofs.TurnTotals.{turn_ok_is}
use Rattle.turn_records.proofs.turns.Turns.passes.Goals as goal

pub returns : goal.returns
returns c = search turn_ok_is
