-- `road_records::links::size_for` meets its contract.
use native.Mathlib.Omega.{arith}
use Rattle.certificate.specs.Layout.{link_size}
use Rattle.octets.proofs.Cases.{by_yes, by_no}
use Rattle.octets.proofs.Picking.{pick_yes, pick_no}
use Rattle.road_records.proofs.links.size_for.Goals as goal

pub returns-then-memory : goal.returns-then-memory
unfolding link_size
returns-then-memory c = (search (pick_yes, by_yes), omega arith, omega arith)

pub returns-else-memory : goal.returns-else-memory
unfolding link_size
returns-else-memory c = (search (pick_no, by_no), omega arith, omega arith)
