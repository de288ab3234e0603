-- `images::ends::send` meets its contract.
use Rattle.std.proofs.Common.{◌≡◌, ◌+◌, ◌≤◌, ◌<◌, arith, refl}
use Rattle.certificate.specs.Layout.{turns_of}
use Rattle.reading.proofs.Whole.{reads, links_most}
use Rattle.supply.specs.Supply.{at}
use Rattle.supply.proofs.TwoLeast.{two_same}
use Rattle.images.proofs.Caps.{lower_most, upper_most}
use Rattle.images.proofs.Outward.{begin_most, begin_ascends}
use Rattle.images.proofs.EndsLinkByLink.{side_red, side_green, side_whole}
use Rattle.images.proofs.ends.send.Goals as goal
use Rattle.images.proofs.ends.send.Goals.{Start}

one_of : (c : Start) → c.args.l < 8
one_of c = omega (arith, links_most c.args.certificate.now)

-- where the turns of the link begin and end
ascends : (c : Start) → at c.args.first.now c.args.l ≤ at c.args.first.now (c.args.l + 1)
ascends c = begin_ascends _ _ (reads c.args.certificate.now) c.requires.0 c.args.l (one_of c)

ends-within : (c : Start) → at c.args.first.now (c.args.l + 1) ≤ turns_of c.args.certificate.now.bytes.now
ends-within c = begin_most _ _ (reads c.args.certificate.now) c.requires.0 (c.args.l + 1) (omega (arith, one_of c))

pub returns-then-limits-l-eq0 : goal.returns-then-limits-l-eq0
returns-then-limits-l-eq0 c =
    let R = reads c.args.certificate.now in
    let E = c.requires.4 in
    let red : at c.args.limits.now c.args.l ≡ 0 = c.if-limits-l-eq0.true in
    record { low = side_red R c.requires.0 _ _ _ _ c.requires.2 _ red E.low; high = side_red R c.requires.0 _ _ _ _ c.requires.2 _ red E.high }

pub supplies-requires : goal.supplies-requires
supplies-requires c = (ascends ((goal.at.supplies-requires c).Start), ends-within ((goal.at.supplies-requires c).Start), c.requires.1)

pub pass_on-requires : goal.pass_on-requires
pass_on-requires c =
    let R = reads c.args.certificate.now in
    let (own, other) = c.supplies.ensures in
    let low = c.requires.4.low in (
      ascends ((goal.at.pass_on-requires c).Start),
      ends-within ((goal.at.pass_on-requires c).Start),
      c.requires.2,
      lower_most R c.requires.1 _ c.requires.2,
      side_whole R c.requires.0 _ _ _ _ c.requires.2 low,
      two_same _ _ _ _ _ other.two_least other.room,
      low.most,
    )

pub pass_on-requires-2 : goal.pass_on-requires-2
pass_on-requires-2 c =
    let R = reads c.args.certificate.now in
    let (other, own) = c.supplies.ensures in
    let high = c.requires.4.high in (
      ascends ((goal.at.pass_on-requires-2 c).Start),
      ends-within ((goal.at.pass_on-requires-2 c).Start),
      c.requires.2,
      upper_most R c.requires.1 _ c.requires.2,
      side_whole R c.requires.0 _ _ _ _ c.requires.2 high,
      two_same _ _ _ _ _ other.two_least other.room,
      high.most,
    )

pub returns : goal.returns
returns c =
    let R = reads c.args.certificate.now in
    let (low, high) = c.supplies.ensures in
    let E = c.requires.4 in
    record {
      low = side_green R c.requires.0 _ _ _ _ c.requires.2 E.low low high (lower_most R c.requires.1 _ c.requires.2) refl c.pass_on.ensures;
      high = side_green R c.requires.0 _ _ _ _ c.requires.2 E.high high low (upper_most R c.requires.1 _ c.requires.2) refl c.pass_on-2.ensures;
    }
