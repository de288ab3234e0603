use Rattle.std.proofs.Common.{◌≡◌, arith}
use Rattle.certificate.specs.Layout.{links_of}
use Rattle.reading.proofs.Whole.{reads}
use Rattle.images.proofs.Caps.{lower_most, upper_most}
use Rattle.images.proofs.EndsLinkByLink.{side_none, both_sides}
use Rattle.images.proofs.ends.ends_of.Goals as goal

pub loop-l-init : goal.loop-l-init
loop-l-init c =
    let R = reads c.args.certificate.now in
    record {
      low = side_none R c.requires.0 _ _ _ _ (λ k h. ((c.scale.ensures k h).0, lower_most R c.requires.1 k h));
      high = side_none R c.requires.0 _ _ _ _ (λ k h. ((c.scale.ensures k h).1, upper_most R c.requires.1 k h));
    }

pub returns : goal.returns
returns c =
    let done : c.loop-l.l ≡ links_of c.args.certificate.now.bytes.now = omega (arith, c.args.certificate.now.laid.links_are) in
    both_sides (reads c.args.certificate.now) c.requires.0 (rw (← done) c.loop-l.invariant)
