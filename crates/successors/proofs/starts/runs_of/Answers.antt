use Rattle.std.proofs.Common.{ℕ, ◌+◌, ◌*◌, ◌<◌, ◌≡◌, get_or, refl, inl, arith, add-one}
use lib.Seq.{get_or-set_same}
use Rattle.certificate.specs.Layout.{links_of}
use Rattle.certificate.proofs.Size.{cells_in_range}
use Rattle.reading.proofs.Whole.{reads}
use Rattle.successors.proofs.Lists.{listing_none, listing_rows, listing_run, size_fits, list_most, run_most, product_fits, number_fits, built_all, built_empty}
use Rattle.successors.proofs.starts.runs_of.Goals as goal

pub loop-l-init : goal.loop-l-init
loop-l-init c = listing_none _ _ (reads c.args.certificate.now) c.requires.1 _ c.run_link-run.ensures _ (get_or-set_same c.args.starts.now 0 0 0 (omega (arith, c.told-starts)))

pub returns-then-to-from : goal.returns-then-to-from
returns-then-to-from c = built_empty _ _ c.loop-l.l _ (omega (arith, c.run_link-run.ensures.exists)) c.if-to-from.true

pub overflow_cast-counts : goal.overflow_cast-counts
overflow_cast-counts c =
    let lt : c.loop-l.l < links_of c.args.certificate.now.bytes.now = omega (arith, c.run_link-run.ensures.exists) in
    omega (arith, c.requires.0 c.loop-l.l lt, ((reads c.args.certificate.now).grid c.loop-l.l lt).count_most)

pub widen-count-requires : goal.widen-count-requires
widen-count-requires c =
    let l = c.loop-l in
    let R = reads c.args.certificate.now in
    let lt : l.l < links_of c.args.certificate.now.bytes.now = omega (arith, c.run_link-run.ensures.exists) in
    let filled = c.if-to-from.false in (
      filled,
      omega (arith, c.requires.1.last_most l.l lt, (R.grid l.l lt).count_most),
      list_most _ _ R c.requires.1 _ c.run_link-run.ensures l.l _ _ _ lt filled l.invariant,
      λ m h. rw (c.requires.0 l.l lt) (number_fits _ _ R c.requires.1 _ c.run_link-run.ensures l.l _ _ _ lt filled l.invariant m _ h (omega arith)),
    )

pub loop-l-preserved : goal.loop-l-preserved
loop-l-preserved c =
    let l = c.loop-l in
    let lt : l.l < links_of c.args.certificate.now.bytes.now = omega (arith, c.run_link-run.ensures.exists) in
    let w = c.widen-count.ensures in
    rw add-one (listing_rows _ _ (reads c.args.certificate.now) c.requires.1 _ c.run_link-run.ensures l.l _ _ _ lt c.if-to-from.false l.invariant _ _ _ c.loop-l-test.true refl w.0 (c.requires.0 l.l lt) w.1)

pub returns-then-to-from-2 : goal.returns-then-to-from-2
returns-then-to-from-2 c = built_empty _ _ c.loop-l-2.l _ (omega (arith, c.args.certificate.now.laid.links_are)) c.if-to-from-2.true

pub overflow_mul-size : goal.overflow_mul-size
overflow_mul-size c =
    let l = c.loop-l-2 in
    let s = c.args.certificate.now.bytes.now in
    let R = reads c.args.certificate.now in
    let lt : l.l < links_of s = omega (arith, c.args.certificate.now.laid.links_are) in
    let filled = c.if-to-from-2.false in
    omega (arith, size_fits s _ R c.requires.1 _ c.run_link-run.ensures l.l _ _ _ lt filled l.invariant, product_fits s _ R c.requires.1 _ c.run_link-run.ensures l.l _ _ _ lt filled l.invariant)

pub overflow_cast-counts-in-loop-l-2 : goal.overflow_cast-counts-in-loop-l-2
overflow_cast-counts-in-loop-l-2 c =
    let lt : c.loop-l-2.l < links_of c.args.certificate.now.bytes.now = omega (arith, c.args.certificate.now.laid.links_are) in
    omega (arith, c.requires.0 c.loop-l-2.l lt, ((reads c.args.certificate.now).grid c.loop-l-2.l lt).count_most)

pub overflow_cast-from : goal.overflow_cast-from
overflow_cast-from c =
    let lt : c.loop-l-2.l < links_of c.args.certificate.now.bytes.now = omega (arith, c.args.certificate.now.laid.links_are) in
    omega (arith, c.requires.1.first_most c.loop-l-2.l lt, ((reads c.args.certificate.now).grid c.loop-l-2.l lt).count_most)

pub row-requires : goal.row-requires
row-requires c =
    let l = c.loop-l-2 in
    let R = reads c.args.certificate.now in
    let lt : l.l < links_of c.args.certificate.now.bytes.now = omega (arith, c.args.certificate.now.laid.links_are) in
    let filled = c.if-to-from-2.false in (
      inl refl,
      omega (arith, run_most _ _ R c.requires.1 _ c.run_link-run.ensures l.l _ _ _ lt filled l.invariant),
      λ m h. rw (c.requires.0 l.l lt) (number_fits _ _ R c.requires.1 _ c.run_link-run.ensures l.l _ _ _ lt filled l.invariant m _ h filled),
    )

pub loop-l-2-preserved : goal.loop-l-2-preserved
loop-l-2-preserved c =
    let l = c.loop-l-2 in
    let lt : l.l < links_of c.args.certificate.now.bytes.now = omega (arith, c.args.certificate.now.laid.links_are) in
    let in_place : (m : ℕ) → m < c.loop-l.count → get_or c.row.new.starts m 0 ≡ get_or l.starts m 0 * get_or c.args.counts.now l.l 0 + get_or c.args.ranges.now.first l.l 0 =
    λ m h. let same : 0 + m ≡ m = omega arith in rw same at (c.row.ensures.0 m h) in
    rw add-one (listing_run _ _ (reads c.args.certificate.now) c.requires.1 _ c.run_link-run.ensures l.l _ _ _ lt c.if-to-from-2.false l.invariant _ _ l.auto.l (c.requires.0 l.l lt) in_place)

pub returns : goal.returns
returns c =
    let w = c.args.certificate.now in
    let end : c.loop-l-2.l ≡ links_of w.bytes.now = omega (arith, w.laid.links_are, c.run_link-run.ensures.exists) in
    let L = rw end at c.loop-l-2.invariant in
    built_all w.bytes.now _ _ _ c.loop-l-2.starts (omega (arith, L.most, cells_in_range w.bytes.now (reads w))) L.built
