-- `reading::Certificate::intervals_of` meets its contract.
use Rattle.std.proofs.Common.{◌≡◌, arith, ◌∙◌}
use Rattle.certificate.specs.Layout.{intervals_of}
use Rattle.reading.proofs.Whole.{intervals_most}
use Rattle.reading.proofs.Certificate.intervals_of.Goals as goal

pub returns : goal.returns
returns c =
    let is : c.count_at.result ≡ intervals_of c.args.self.now.bytes.now c.args.l = c.count_at.ensures.0 ∙ rw (c.args.self.now.laid.grid_is _ c.requires) in
    (is, rw is (intervals_most c.args.self.now _ c.requires))
