use Rattle.std.proofs.Common.{arith, refl, sym, ap, ◌∙◌, ◌≡◌, ◌<◌}
use Rattle.std.proofs.lemmas.Option.{none-some}
use Rattle.certificate.specs.declared.Report.{Report}
use Rattle.certificate.specs.Layout.{cells_of, boxes_of}
use Rattle.certificate.proofs.Loops.{any_none, any_more}
use Rattle.entry_search.proofs.Regular.{boxes_count}
use Rattle.entry_search.proofs.Overflowing.{all_boxes}
use Rattle.entry_search.proofs.Searching.{next_box, stop_box, end_boxes, first_cell, pass_over, holds, stops, end_cells}
use Rattle.entry_search.proofs.search.search_boxes.Goals as goal
use Rattle.entry_search.proofs.search.search_boxes.Goals.{then-in_ranges+in_default-check_successor, else-in_ranges, else-search-test, then-search-test+in_default+then-loop-d-test+then-in_ranges+in-Err}

pub search-init : goal.search-init
search-init c = (refl, omega (arith, c.requires.1), any_none _, refl)

pub search-preserved-in-Some : goal.search-preserved-in-Some
search-preserved-in-Some c =
    let entry = c.args.entry.now in
    let w = entry.tables.now.certificate.now in
    let v = c.search.invariant in
    let alone = sym (c.in-Some.ensures.passed c.search.b c.box_ranges-exceeds.ensures.0 _) in (
      next_box w.bytes.now entry.number c.search.b c.search.searched.count _ (omega (arith, w.laid.boxes_are)) alone v.0,
      omega (arith, v.1, c.in-Some.ensures.few),
      any_more _ _ v.2 c.box_ranges-exceeds.ensures.1,
      v.3,
    )

pub loop-d-init : goal.loop-d-init
loop-d-init c =
    let v = c.search.invariant in
    (first_cell _ _ _ _, omega arith, any_more _ _ v.2 c.box_ranges-exceeds.ensures.1, v.3)

pub loop-d-preserved : goal.loop-d-preserved
loop-d-preserved c =
    let entry = c.args.entry.now in
    let w = entry.tables.now.certificate.now in
    let lt : c.loop-d.d < cells_of w.bytes.now = omega (arith, w.laid.cells_are) in
    let v = c.loop-d.invariant in
    let same = c.box_ranges-exceeds.ensures.0.same c.loop-d.d ∙ sym c.in_ranges.ensures in
    elim c.if-in_ranges.branch [
      | then-in_ranges+in_default-check_successor x ↦ rw x.searched-is (holds w.bytes.now entry.number c.search.b c.loop-d.d c.loop-d.searched.count lt (same ∙ x.if-in_ranges.true) x.in_default-check_successor.ensures v.0, omega (arith, v.1), v.2, v.3)
      | else-in_ranges x ↦ rw x.searched-is (pass_over w.bytes.now entry.number c.search.b c.loop-d.d c.loop-d.searched.count lt (same ∙ x.if-in_ranges.false) v.0, omega (arith, v.1), v.2, v.3)
    ]

pub search-preserved : goal.search-preserved
search-preserved c =
    let entry = c.args.entry.now in
    let w = entry.tables.now.certificate.now in
    let v = c.search.invariant in
    let q = c.loop-d.invariant in
    let alone = end_cells w.bytes.now entry.number c.search.b c.loop-d.d c.loop-d.searched.count (omega (arith, w.laid.cells_are)) q.0 in (
      next_box w.bytes.now entry.number c.search.b c.search.searched.count _ (omega (arith, w.laid.boxes_are)) alone v.0,
      omega (arith, v.1, q.1, w.laid.cells_most),
      q.2,
      q.3,
    )

pub returns-in-Some-refused : goal.returns-in-Some-refused
returns-in-Some-refused c =
    let entry = c.args.entry.now in
    let w = entry.tables.now.certificate.now in
    elim c.search-test.branch [
      | else-search-test x ↦ absurd (none-some _ (sym c.search.invariant.3 ∙ sym x.refused-is ∙ c.in-Some-refused.is))
      | then-search-test+in_default+then-loop-d-test+then-in_ranges+in-Err x ↦
          let same : x.in-Err.e ≡ c.in-Some-refused.e = grind arith in
          let follows = x.box_ranges-exceeds.ensures.0.same _ ∙ sym x.in_ranges.ensures ∙ x.if-in_ranges.true in
          let alone = stops w.bytes.now entry.number c.search.b x.loop-d.d x.loop-d.searched.count x.in-Err.e (omega (arith, w.laid.cells_are, x.loop-d-test.true)) follows x.in-Err.ensures x.loop-d.invariant.0 in
          let told = stop_box w.bytes.now entry.number c.search.b c.search.searched.count x.in-Err.e (omega (arith, w.laid.boxes_are, x.search-test.true)) alone c.search.invariant.0 in
          rw (← same) (told, omega (arith, ap (λ (r : Report). r.count) told, boxes_count w entry.number c.args.count, c.requires.1), tt)
    ]

pub returns-in-None : goal.returns-in-None
returns-in-None c =
    let entry = c.args.entry.now in
    let w = entry.tables.now.certificate.now in
    let v = c.search.invariant in
    elim c.search-test.branch [
      | else-search-test x ↦
          let last : c.search.b ≡ boxes_of w.bytes.now = omega (arith, w.laid.boxes_are, x.search-test.false) in
          rw x.searched-is (end_boxes w.bytes.now entry.number c.search.b c.search.searched.count (omega (arith, last)) v.0, omega (arith, v.1, w.laid.boxes_most), all_boxes w.bytes.now entry.number c.search.b last v.2)
      | then-search-test+in_default+then-loop-d-test+then-in_ranges+in-Err x ↦ absurd (none-some _ (sym c.in-None.is ∙ x.refused-is))
    ]
