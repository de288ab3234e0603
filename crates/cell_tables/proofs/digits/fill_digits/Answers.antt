use Rattle.std.proofs.Common.{arith}
use Rattle.reading.proofs.Whole.{reads}
use Rattle.cell_tables.proofs.Counting.{first_row}
use Rattle.cell_tables.proofs.digits.fill_digits.Goals as goal

pub loop-c-init : goal.loop-c-init
loop-c-init c = (λ d k under z. absurd (omega arith), first_row c.args.certificate.now.bytes.now (reads c.args.certificate.now))
