-- `header_record::header_marked` meets its contract.
use Rattle.certificate.specs.Records.{header_marked}
use Rattle.header_record.proofs.header_marked.Goals as goal

pub returns : goal.returns
unfolding header_marked
returns c = rw (c.marked_as.ensures, c.marked_as-2.ensures, c.marked_as-3.ensures)
