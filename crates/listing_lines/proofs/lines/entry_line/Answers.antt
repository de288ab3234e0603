-- `listing_lines::lines::entry_line` meets its contract.
use Rattle.listing_text.specs.Lines.{entry_line}
use Rattle.listing_lines.specs.Fields.{line_of}
use Rattle.listing_lines.proofs.LineParts.{within, entry_most}
use Rattle.listing_lines.proofs.lines.entry_line.Goals as goal

pub returns : goal.returns
unfolding line_of entry_line
returns c = within (rw c.bench_entry-entry.ensures.0) (entry_most c.args.entries.now.bytes.now c.args.e)
