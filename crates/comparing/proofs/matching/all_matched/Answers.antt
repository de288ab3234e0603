use Rattle.std.proofs.Common.{◌<◌, arith, refl}
use Rattle.certificate.specs.Layout.{entries_of}
use Rattle.octets.proofs.Cases.{all_on, all_stop, all_end}
use Rattle.covering.specs.Covering.{is_matched}
use Rattle.reading.proofs.Whole.{reads}
use Rattle.comparing.proofs.Walking.{walk_on, matched_there}
use Rattle.comparing.proofs.matching.all_matched.Goals as goal

pub loop-f-init : goal.loop-f-init
loop-f-init c = (refl, omega arith, λ lt i h. absurd (omega arith))

pub first_at-e-requires : goal.first_at-e-requires
first_at-e-requires c =
    let l = c.loop-f.invariant in
    (l.1, rw c.key_of.ensures (l.2 (omega (arith, c.args.t.now.laid.entries_are))))

pub matched_by-requires : goal.matched_by-requires
matched_by-requires c =
    let s = c.args.s.now.laid in
    let t = c.args.t.now.laid in
    (omega (arith, c.first_at-e.ensures.most, s.entries_are, s.entries_most), omega (arith, t.entries_most))

pub returns-then-not-matched_by : goal.returns-then-not-matched_by
returns-then-not-matched_by c =
    let l = c.loop-f in
    let s = c.args.s.now in
    let t = c.args.t.now in
    let up = rw c.key_of.ensures at c.first_at-e.ensures in
    let lt : l.f < entries_of t.bytes.now = omega (arith, t.laid.entries_are) in
    let is = matched_there s.bytes.now t.bytes.now (reads s) (reads t) l.f _ lt up c.matched_by.ensures in
    all_stop _ l.f (is_matched s.bytes.now t.bytes.now) _ _ lt is c.if-not-matched_by.true l.invariant.0

pub loop-f-preserved : goal.loop-f-preserved
loop-f-preserved c =
    let l = c.loop-f in
    let s = c.args.s.now in
    let t = c.args.t.now in
    let up = rw c.key_of.ensures at c.first_at-e.ensures in
    let lt : l.f < entries_of t.bytes.now = omega (arith, t.laid.entries_are) in
    let is = matched_there s.bytes.now t.bytes.now (reads s) (reads t) l.f _ lt up c.matched_by.ensures in (
      all_on _ l.f (is_matched s.bytes.now t.bytes.now) _ _ lt is c.if-not-matched_by.false l.invariant.0,
      up.most,
      λ more. walk_on s.bytes.now t.bytes.now (reads t) _ l.f up.before more,
    )

pub returns : goal.returns
returns c =
    let l = c.loop-f in
    let t = c.args.t.now in
    all_end (entries_of t.bytes.now) l.f (is_matched c.args.s.now.bytes.now t.bytes.now) _ (omega (arith, t.laid.entries_are)) l.invariant.0
