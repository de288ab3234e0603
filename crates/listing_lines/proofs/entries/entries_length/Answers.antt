use mathlib.Core.Path.{ap}
use native.Mathlib.Omega.{arith}
use lib.ListN.{length}
use Rattle.listing_text.specs.Lines.{entry_lines}
use Rattle.listing_text.proofs.LineLengths.{length_more}
use Rattle.listing_lines.proofs.entries.entries_length.Goals as goal

pub loop-e-init : goal.loop-e-init
unfolding entry_lines
loop-e-init c = omega arith

pub loop-e-preserved : goal.loop-e-preserved
loop-e-preserved c = omega (arith, length_more c.args.entries.now.bytes.now c.loop-e.e, ap length c.entry_line.ensures.0)
