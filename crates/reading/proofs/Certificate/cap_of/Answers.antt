-- `reading::Certificate::cap_of` meets its contract.
use Rattle.std.proofs.Common.{arith}
use Rattle.reading.proofs.Whole.{links_most, link_whole, cap_most}
use Rattle.reading.proofs.Certificate.cap_of.Goals as goal

pub cap_within-requires : goal.cap_within-requires
cap_within-requires c = (omega (arith, links_most c.args.self.now), link_whole c.args.self.now _ c.requires)

pub returns : goal.returns
returns c = (c.cap_within.ensures.0, rw c.cap_within.ensures.0 (cap_most c.args.self.now _ c.requires))
