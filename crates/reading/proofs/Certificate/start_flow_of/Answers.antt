-- `reading::Certificate::start_flow_of` meets its contract.
use Rattle.std.proofs.Common.{arith}
use Rattle.reading.proofs.Whole.{links_most, start_most}
use Rattle.reading.proofs.Certificate.start_flow_of.Goals as goal

pub returns : goal.returns
returns c = (c.start_flow_of.ensures.0, rw c.start_flow_of.ensures.0 (start_most c.args.self.now _ c.requires))
