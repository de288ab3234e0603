use Rattle.std.proofs.Common.{◌≡◌, ◌-◌, arith}
use Rattle.reading.proofs.Whole.{reads}
use Rattle.successors.proofs.Ranging.{passed_none, passed_more, first_inside, first_beyond, last_inside}
use Rattle.successors.proofs.ranges.range_of.Goals as goal

pub overflow_sub-inner : goal.overflow_sub-inner
overflow_sub-inner c = omega (arith, c.requires.2, ((reads c.args.certificate.now).grid c.args.l c.requires.1).count_least)

pub loop-i-init : goal.loop-i-init
loop-i-init c =
    let G = (reads c.args.certificate.now).grid c.args.l c.requires.1 in
    (passed_none _ _ _, passed_none _ _ _, omega (arith, c.requires.2, G.count_least), omega (arith, c.requires.2, G.count_least, G.count_most))

pub loop-i-preserved : goal.loop-i-preserved
loop-i-preserved c =
    let w = c.loop-i.invariant in
    let s = c.args.certificate.now.bytes.now in
    let R = reads c.args.certificate.now in
    let e = c.upper_at-edge.ensures in
    (passed_more s c.args.l R c.requires.1 _ _ _ _ e w.0 _ c.passed-first.ensures, passed_more s c.args.l R c.requires.1 _ _ _ _ e w.1 _ c.passed-last.ensures, w.2, w.3)

pub returns-then-upper_at-low : goal.returns-then-upper_at-low
returns-then-upper_at-low c =
    let w = c.loop-i.invariant in
    let s = c.args.certificate.now.bytes.now in
    let R = reads c.args.certificate.now in
    let end : c.loop-i.i ≡ c.args.count - 1 = omega arith in
    let e = c.upper_at.ensures in
    (first_beyond s c.args.l R c.requires.1 _ _ _ _ w.2 e (rw end at w.0) _ c.requires.2 c.if-upper_at-low.true, last_inside s c.args.l R c.requires.1 _ _ _ _ w.2 e (rw end at w.1))

pub returns-else-upper_at-low : goal.returns-else-upper_at-low
returns-else-upper_at-low c =
    let w = c.loop-i.invariant in
    let s = c.args.certificate.now.bytes.now in
    let R = reads c.args.certificate.now in
    let end : c.loop-i.i ≡ c.args.count - 1 = omega arith in
    let e = c.upper_at.ensures in
    (first_inside s c.args.l R c.requires.1 _ _ _ _ w.2 e (rw end at w.0) c.if-upper_at-low.false, last_inside s c.args.l R c.requires.1 _ _ _ _ w.2 e (rw end at w.1))
