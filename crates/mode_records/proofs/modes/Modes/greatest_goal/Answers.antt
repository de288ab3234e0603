-- `mode_records::modes::Modes::greatest_goal` meets its contract.
use native.Mathlib.Omega.{arith}
use Rattle.octets.proofs.Cases.{by_yes, by_no}
use Rattle.mode_records.proofs.ModeFields.{one_greatest}
use Rattle.mode_records.proofs.modes.Modes.greatest_goal.Goals as goal

pub greatest_number-requires : goal.greatest_number-requires
greatest_number-requires c = by_yes _ _ c.takes_turns.ensures c.if-takes_turns.true

pub returns : goal.returns
returns c = (one_greatest _ (by_no _ _ c.takes_turns.ensures c.if-takes_turns.false), omega arith)
