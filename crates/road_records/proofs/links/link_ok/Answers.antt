-- `road_records::links::link_ok` meets its contract.
use Rattle.certificate.specs.Octets.{◌also◌}
use Rattle.certificate.specs.Records.{link_ok}
use Rattle.road_records.proofs.links.link_ok.Goals as goal

pub returns : goal.returns
unfolding link_ok ◌also◌
returns c = rw (c.link_u16_within.ensures.0, c.link_byte_within.ensures.0, c.start_flow_within-start.ensures.0, c.link_u16_within-safe.ensures.0, c.flow_within-flow.ensures.0, c.cap_within-cap.ensures.0, c.link_byte_within-head.ensures.0)
