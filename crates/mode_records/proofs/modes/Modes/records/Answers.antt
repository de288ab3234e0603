-- `mode_records::modes::Modes::records` meets its contract.
use native.Mathlib.Omega.{arith}
use Rattle.certificate.specs.Layout.{mode_records_of}
use Rattle.octets.proofs.Cases.{by_yes, by_no}
use Rattle.octets.proofs.Picking.{pick_yes, pick_no}
use Rattle.mode_records.proofs.modes.Modes.records.Goals as goal

pub returns-then-has_memory : goal.returns-then-has_memory
unfolding mode_records_of
returns-then-has_memory c = (pick_yes _ _ _ _ (by_yes _ _ c.has_memory.ensures c.if-has_memory.true) c.modes_of.ensures.0, omega (arith, c.modes_of.ensures.0), omega (arith, c.modes_of.ensures.1))

pub returns : goal.returns
unfolding mode_records_of
returns c = (search (pick_no, by_no), omega arith, omega arith)
