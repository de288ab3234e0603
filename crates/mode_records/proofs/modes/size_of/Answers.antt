-- `mode_records::modes::size_of` meets its contract.
use native.Mathlib.Omega.{arith}
use Rattle.certificate.specs.Layout.{mode_size}
use Rattle.octets.proofs.Cases.{by_yes, by_no}
use Rattle.octets.proofs.Picking.{pick_yes, pick_no}
use Rattle.mode_records.proofs.modes.size_of.Goals as goal

pub returns-then-takes_turns : goal.returns-then-takes_turns
unfolding mode_size
returns-then-takes_turns c = (pick_yes _ _ _ _ (by_yes _ _ c.takes_turns.ensures c.if-takes_turns.true) (omega (arith, c.links_of.ensures)), omega (arith, c.links_of.ensures))

pub returns : goal.returns
unfolding mode_size
returns c = (search (pick_no, by_no), omega arith)
