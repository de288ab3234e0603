-- `reading::Certificate::pull_of` meets its contract.
use Rattle.std.proofs.Common.{◌≡◌, arith, ◌∙◌}
use Rattle.certificate.specs.Layout.{pull_of}
use Rattle.reading.proofs.Whole.{reads, turns_most, turn_whole}
use Rattle.reading.proofs.Certificate.pull_of.Goals as goal

pub pull_within-requires : goal.pull_within-requires
pull_within-requires c = (omega (arith, turns_most c.args.self.now), rw c.turns.ensures (turn_whole c.args.self.now _ c.requires))

pub returns : goal.returns
returns c =
    let is : c.pull_within.result ≡ pull_of c.args.self.now.bytes.now c.args.t = c.pull_within.ensures.0 ∙ rw c.turns.ensures in
    (is, rw is (((reads c.args.self.now).turn _ c.requires).pull_most))
