use mathlib.Core.Path.{ap}
use native.Mathlib.Omega.{arith}
use lib.ListN.{length}
use Rattle.listing_lines.proofs.LineParts.{length_field, line_end}
use Rattle.listing_lines.proofs.line.line_length.Goals as goal

pub overflow_add-total-in-loop-word : goal.overflow_add-total-in-loop-word
overflow_add-total-in-loop-word c = omega (arith, length_field c.args.fields.now c.loop-word.word-index (omega arith))

pub loop-word-preserved : goal.loop-word-preserved
loop-word-preserved c = omega (arith, length_field c.args.fields.now c.loop-word.word-index (omega arith))

pub returns : goal.returns
returns c = omega (arith, ap length (line_end c.args.fields.now c.loop-word.word-index (omega arith)))
