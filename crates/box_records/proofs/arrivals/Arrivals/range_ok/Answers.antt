-- `box_records::arrivals::Arrivals::range_ok` meets its contract.
use Rattle.certificate.specs.Octets.{◌also◌}
use Rattle.certificate.specs.Records.{range_ok}
use Rattle.box_records.proofs.arrivals.Arrivals.range_ok.Goals as goal

pub returns : goal.returns
unfolding range_ok ◌also◌
returns c = rw (c.low_within.ensures.0, c.high_within-high.ensures.0)
