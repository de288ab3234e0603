-- `box_records::grids::count_ok` meets its contract.
use Rattle.certificate.specs.Octets.{◌also◌}
use Rattle.certificate.specs.Records.{count_ok}
use Rattle.box_records.proofs.grids.count_ok.Goals as goal

pub returns : goal.returns
unfolding count_ok ◌also◌
returns c = rw (c.count_at-count.ensures.0, c.requires.2, c.requires.3)
