-- `reading::Certificate::share_of` meets its contract.
use Rattle.std.proofs.Common.{◌≡◌, arith, ◌∙◌}
use Rattle.certificate.specs.Layout.{share_of}
use Rattle.reading.proofs.Whole.{reads, turns_most, turn_whole}
use Rattle.reading.proofs.Certificate.share_of.Goals as goal

pub share_within-requires : goal.share_within-requires
share_within-requires c = (omega (arith, turns_most c.args.self.now), rw c.turns.ensures (turn_whole c.args.self.now _ c.requires))

pub returns : goal.returns
returns c =
    let is : c.share_within.result ≡ share_of c.args.self.now.bytes.now c.args.t = c.share_within.ensures.0 ∙ rw c.turns.ensures in
    (is, rw is (((reads c.args.self.now).turn _ c.requires).share_most))
