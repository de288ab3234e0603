-- `box_records::grids::check_grids` meets its contract.
use mathlib.Core.Path.{◌≡◌}
use Rattle.certificate.specs.Checks.{first_from}
use Rattle.certificate.specs.Records.{grid_fault}
use Rattle.box_records.specs.GridRecords.{GridsLaid}
use Rattle.box_records.proofs.grids.check_grids.Given as goal

abbrev pub invariant-loop-l : goal.invariant-loop-l
invariant-loop-l l = (first_from l.links (grid_fault l.s) l.l ≡ first_from l.links (grid_fault l.s) 0) × GridsLaid l.s l.l l.places l.at l.product
