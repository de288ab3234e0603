-- `listing_lines::lines::refused_line` meets its contract.
use Rattle.listing_text.specs.Lines.{refused_line}
use Rattle.listing_lines.specs.Fields.{line_of}
use Rattle.listing_lines.proofs.LineParts.{within, refused_most}
use Rattle.listing_lines.proofs.lines.refused_line.Goals as goal

pub returns : goal.returns
unfolding line_of refused_line
returns c = within (rw c.from.ensures) (refused_most c.args.report)
