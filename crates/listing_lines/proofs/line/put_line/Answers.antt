use native.Mathlib.Omega.{arith}
use Rattle.text.proofs.Written.{room_first, rest_next, rest_last}
use Rattle.listing_lines.proofs.LineParts.{line_step, line_end}
use Rattle.listing_lines.proofs.line.put_line.Goals as goal

pub put_word-requires : goal.put_word-requires
put_word-requires c = room_first c.loop-word.writer _ (rw (line_step c.args.fields.now c.loop-word.word-index (omega arith)) at c.loop-word.invariant.room)

pub put_decimal-requires : goal.put_decimal-requires
put_decimal-requires c =
    let rest = rest_next (rw (line_step c.args.fields.now c.loop-word.word-index (omega arith)) at c.loop-word.invariant) c.put_word.ensures in
    room_first c.put_word.new.self _ rest.room

pub loop-word-preserved : goal.loop-word-preserved
loop-word-preserved c =
    let rest = rest_next (rw (line_step c.args.fields.now c.loop-word.word-index (omega arith)) at c.loop-word.invariant) c.put_word.ensures in
    rest_next rest c.put_decimal.ensures

pub put_word-requires-2 : goal.put_word-requires-2
put_word-requires-2 c = (rw (line_end c.args.fields.now c.loop-word.word-index (omega arith)) at c.loop-word.invariant).room

pub returns : goal.returns
returns c = rest_last (rw (line_end c.args.fields.now c.loop-word.word-index (omega arith)) at c.loop-word.invariant) c.put_word-2.ensures
