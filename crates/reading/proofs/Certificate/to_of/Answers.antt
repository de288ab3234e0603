-- `reading::Certificate::to_of` meets its contract.
use Rattle.std.proofs.Common.{◌≡◌, arith, ◌∙◌}
use Rattle.certificate.specs.Layout.{to_of}
use Rattle.reading.proofs.Whole.{reads, turns_most, turn_whole}
use Rattle.reading.proofs.Certificate.to_of.Goals as goal

pub to_within-requires : goal.to_within-requires
to_within-requires c = (omega (arith, turns_most c.args.self.now), rw c.turns.ensures (turn_whole c.args.self.now _ c.requires))

pub returns : goal.returns
returns c =
    let is : c.to_within.result ≡ to_of c.args.self.now.bytes.now c.args.t = c.to_within.ensures.0 ∙ rw c.turns.ensures in
    (is, rw is (((reads c.args.self.now).turn _ c.requires).to_link))
