-- `octets::marked_within` meets its contract.
use Rattle.certificate.specs.Checks.{marked}
use Rattle.octets.proofs.marked_within.Goals as goal

pub returns : goal.returns
unfolding marked
returns c = rw (c.byte_within-2.ensures.0, c.byte_within.ensures.0)
