-- `box_records::arrivals::Arrivals::check_range` meets its contract.
use Rattle.certificate.specs.Records.{range_fault}
use Rattle.box_records.proofs.arrivals.Arrivals.check_range.Goals as goal

pub returns : goal.returns
unfolding range_fault
returns c = rw (← c.range_ok.ensures, ← c.record_at.ensures.0) c.require.ensures
