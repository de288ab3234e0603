-- `road_records::links::check_link` meets its contract.
use Rattle.certificate.specs.Records.{link_fault}
use Rattle.octets.proofs.Outcomes.{left_first, then_next}
use Rattle.road_records.proofs.LinkRecords.{link_whole}
use Rattle.road_records.proofs.links.check_link.Goals as goal

pub returns-in_err-check_opened : goal.returns-in_err-check_opened
unfolding link_fault
returns-in_err-check_opened c = rw (← c.place_for-o.ensures.0, ← c.size_for-size.ensures.0, ← c.marked_as.ensures) (left_first _ _ c.from_residual.ensures.1 _ _ c.in_err-check_opened.ensures)

pub link_ok-requires : goal.link_ok-requires
link_ok-requires c = (c.requires, link_whole _ _ c.place_for-o.ensures.0 c.size_for-size.ensures.0 _ c.in_ok-check_opened.ensures)

pub returns : goal.returns
unfolding link_fault
returns c = rw (← c.place_for-o.ensures.0, ← c.link_ok.ensures, ← c.size_for-size.ensures.0, ← c.marked_as.ensures) (then_next _ _ _ c.in_ok-check_opened.ensures c.require.ensures)
