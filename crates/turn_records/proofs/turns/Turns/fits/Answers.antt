-- `turn_records::turns::Turns::fits` meets its contract.
use Rattle.certificate.specs.Octets.{◌also◌}
use Rattle.turn_records.proofs.turns.Turns.fits.Goals as goal

pub returns : goal.returns
unfolding ◌also◌
returns c = rw (c.tail_of.ensures.0, c.head_of.ensures.0, c.pull_within-pull.ensures.0, c.share_within-share.ensures.0, c.to_within-to.ensures.0, c.from_within-from.ensures.0, c.requires.2)
