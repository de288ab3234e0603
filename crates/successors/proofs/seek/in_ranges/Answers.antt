-- `successors::seek::in_ranges` meets its contract.
use Rattle.std.proofs.Common.{rules, tests}
use Rattle.grid.specs.Cells.{interval_in}
use Rattle.certificate.specs.Layout.{links_of}
use Rattle.octets.proofs.Ranges.{all_below}
use Rattle.successors.specs.Ranges.{in_range, in_ranges}
use Rattle.successors.proofs.seek.in_ranges.Goals as goal

pub returns : goal.returns
unfolding in_ranges
returns c =
    let s = c.args.certificate.now.bytes.now in
    all_below (λ l. in_range c.args.ranges.now l (interval_in s c.args.cell l)) (links_of s) (cc) (λ l b q k. (search rules, search (rules, tests))) c.all.ensures.ran
