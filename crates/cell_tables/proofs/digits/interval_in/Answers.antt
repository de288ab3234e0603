-- `cell_tables::digits::interval_in` meets its contract.
use Rattle.reading.proofs.Whole.{reads}
use Rattle.cell_tables.proofs.Filling.{interval_exists}
use Rattle.cell_tables.proofs.digits.interval_in.Goals as goal

pub returns : goal.returns
returns c = rw c.from.ensures (interval_exists c.args.certificate.now.bytes.now (reads c.args.certificate.now) c.args.digits.now c.requires.0 _ _ c.requires.1 c.requires.2)
