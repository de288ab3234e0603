-- `box_records::arrivals::Arrivals::check_ranges` meets its contract.
use mathlib.Core.Path.{◌≡◌}
use Rattle.certificate.specs.Checks.{first_from}
use Rattle.certificate.specs.Records.{range_fault}
use Rattle.box_records.proofs.arrivals.Arrivals.check_ranges.Given as goal

abbrev pub invariant-loop-l : goal.invariant-loop-l
invariant-loop-l l = first_from l.self.links (range_fault l.self.bytes.now l.b) l.l ≡ first_from l.self.links (range_fault l.self.bytes.now l.b) 0
