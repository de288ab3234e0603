-- `listing_lines::lines::counts_line` meets its contract.
use Rattle.listing_text.specs.Lines.{counts_line}
use Rattle.listing_lines.specs.Fields.{line_of}
use Rattle.listing_lines.proofs.LineParts.{within, counts_most}
use Rattle.listing_lines.proofs.lines.counts_line.Goals as goal

pub returns : goal.returns
unfolding line_of counts_line
returns c = within (rw (c.links_of.ensures.0, c.turns_of.ensures.0, c.signals_of.ensures.0, c.modes_of.ensures.0, c.boxes_of.ensures.0, c.entries_of.ensures.0)) (counts_most c.args.s.now)
