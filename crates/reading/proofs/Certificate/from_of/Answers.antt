-- `reading::Certificate::from_of` meets its contract.
use Rattle.std.proofs.Common.{◌≡◌, arith, ◌∙◌}
use Rattle.certificate.specs.Layout.{from_of}
use Rattle.reading.proofs.Whole.{reads, turns_most, turn_whole}
use Rattle.reading.proofs.Certificate.from_of.Goals as goal

pub from_within-requires : goal.from_within-requires
from_within-requires c = (omega (arith, turns_most c.args.self.now), rw c.turns.ensures (turn_whole c.args.self.now _ c.requires))

pub returns : goal.returns
returns c =
    let is : c.from_within.result ≡ from_of c.args.self.now.bytes.now c.args.t = c.from_within.ensures.0 ∙ rw c.turns.ensures in
    (is, rw is (((reads c.args.self.now).turn _ c.requires).from_link))
