-- `reading::Certificate::flow_of` meets its contract.
use Rattle.std.proofs.Common.{arith}
use Rattle.reading.proofs.Whole.{links_most, link_whole, flow_most}
use Rattle.reading.proofs.Certificate.flow_of.Goals as goal

pub flow_within-requires : goal.flow_within-requires
flow_within-requires c = (omega (arith, links_most c.args.self.now), link_whole c.args.self.now _ c.requires)

pub returns : goal.returns
returns c = (c.flow_within.ensures.0, rw c.flow_within.ensures.0 (flow_most c.args.self.now _ c.requires))
