-- `listing_lines::lines::accepted_line` meets its contract.
use mathlib.Core.Path.{refl}
use Rattle.listing_text.specs.Lines.{accepted_line}
use Rattle.listing_lines.specs.Fields.{line_of}
use Rattle.listing_lines.proofs.LineParts.{within, accepted_most}
use Rattle.listing_lines.proofs.lines.accepted_line.Goals as goal

pub returns : goal.returns
unfolding line_of accepted_line
returns c = within refl (accepted_most c.args.report c.args.overflows)
