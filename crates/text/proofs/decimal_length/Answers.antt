-- `text::decimal_length` meets its contract.
use native.Mathlib.Omega.{arith}
use Rattle.listing_text.proofs.Digits.{length_one}
use Rattle.text.proofs.Digits.{length_by_log}
use Rattle.text.proofs.decimal_length.Goals as goal

pub returns-then-n-lt10 : goal.returns-then-n-lt10
returns-then-n-lt10 c = omega (arith, length_one c.args.n (omega arith))

pub returns-else-n-lt10 : goal.returns-else-n-lt10
returns-else-n-lt10 c =
    let log = c.ilog10.ensures in
    (length_by_log c.args.n _ (omega arith) log.power_le log.next_power_gt, omega arith)
