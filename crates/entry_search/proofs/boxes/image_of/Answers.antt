-- `entry_search::boxes::image_of` meets its contract.
use Rattle.std.proofs.Common.{arith}
use Rattle.reading.proofs.Whole.{reads}
use Rattle.entry_search.proofs.Arriving.{lows_small, highs_small, image_is}
use Rattle.entry_search.proofs.Overflowing.{box_over}
use Rattle.entry_search.proofs.boxes.image_of.Goals as goal

pub ends_under-requires : goal.ends_under-requires
ends_under-requires c =
    let p = c.requires in
    let tables = c.args.entry.now.tables.now in
    (omega (arith, p.1, (reads tables.certificate.now).header.boxes_most), λ l hl. (p.0.low_most l hl, lows_small tables _ p.1 l hl))

pub ends_under-requires-2 : goal.ends_under-requires-2
ends_under-requires-2 c =
    let p = c.requires in
    let tables = c.args.entry.now.tables.now in
    (omega (arith, p.1, (reads tables.certificate.now).header.boxes_most), λ l hl. (p.0.high_most l hl, highs_small tables _ p.1 l hl))

pub returns : goal.returns
returns c =
    let p = c.requires in
    let image = image_is c.args.entry.now _ _ _ _ p.0 p.1 c.ends_under.ensures.0 c.ends_under-2.ensures.0 c.ends_under-2.ensures.1 in
    (image, box_over _ _ _ _ _ image c.ends_under-2.ensures.2)
