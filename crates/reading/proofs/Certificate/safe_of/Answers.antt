-- `reading::Certificate::safe_of` meets its contract.
use Rattle.std.proofs.Common.{arith}
use Rattle.reading.proofs.Whole.{links_most, safe_most}
use Rattle.reading.proofs.Certificate.safe_of.Goals as goal

pub returns : goal.returns
returns c = (c.safe_of.ensures.0, rw c.safe_of.ensures.0 (safe_most c.args.self.now _ c.requires))
