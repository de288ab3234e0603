-- `header_record::counts_ok` meets its contract.
use Rattle.std.proofs.Math.Bool.{and_assoc}
use Rattle.certificate.specs.Octets.{◌also◌}
use Rattle.certificate.specs.Records.{header_ok}
use Rattle.header_record.proofs.Between.{between}
use Rattle.header_record.proofs.counts_ok.Goals as goal

pub returns : goal.returns
unfolding header_ok ◌also◌
returns c =
    let links = between _ _ _ _ c.links_of.result c.new.ensures.start c.new.ensures.end c.new.ensures.exhausted c.contains.ensures.value in
    let signals = between _ _ _ _ c.signals_of.result c.new-2.ensures.start c.new-2.ensures.end c.new-2.ensures.exhausted c.contains-2.ensures.value in
    let modes = between _ _ _ _ c.modes_of.result c.new-3.ensures.start c.new-3.ensures.end c.new-3.ensures.exhausted c.contains-3.ensures.value in
    let boxes = between _ _ _ _ c.boxes_of.result c.new-4.ensures.start c.new-4.ensures.end c.new-4.ensures.exhausted c.contains-4.ensures.value in
    let entries = between _ _ _ _ c.entries_of.result c.new-5.ensures.start c.new-5.ensures.end c.new-5.ensures.exhausted c.contains-5.ensures.value in
    rw (links, signals, modes, boxes, entries, c.links_of.ensures.0, c.turns_of.ensures.0, c.signals_of.ensures.0, c.modes_of.ensures.0, c.boxes_of.ensures.0, c.entries_of.ensures.0) (simp and_assoc)
