-- `box_records::grids::check_cuts` meets its contract.
use mathlib.Core.Path.{◌≡◌}
use Rattle.certificate.specs.Checks.{first_from}
use Rattle.certificate.specs.Records.{cut_before, cut_fault}
use Rattle.box_records.proofs.grids.check_cuts.Given as goal

abbrev pub invariant-loop-i : goal.invariant-loop-i
invariant-loop-i l = (first_from l.n (cut_fault l.s l.l) l.i ≡ first_from l.n (cut_fault l.s l.l) 0) × (l.before ≡ cut_before l.s l.l l.i)
