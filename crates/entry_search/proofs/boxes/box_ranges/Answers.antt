-- `entry_search::boxes::box_ranges` meets its contract.
use Rattle.entry_search.proofs.InBoxes.{ranges_are}
use Rattle.entry_search.proofs.boxes.box_ranges.Goals as goal

pub returns : goal.returns
returns c = (ranges_are c.args.entry.now.tables.now.certificate.now _ _ _ _ _ c.image_of-any.ensures.0 c.ranges_of.ensures, c.image_of-any.ensures.1)
