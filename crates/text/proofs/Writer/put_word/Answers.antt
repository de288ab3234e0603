use Rattle.std.proofs.Common.{refl, arith}
use Rattle.text.proofs.Placing.{written_part, copied_more, copied_all}
use Rattle.text.proofs.Writer.put_word.Goals as goal

pub loop-i-preserved : goal.loop-i-preserved
loop-i-preserved c = copied_more c.loop-i.i c.loop-i.invariant (omega arith) (omega arith)

pub returns : goal.returns
returns c =
    let word = copied_all c.loop-i.i c.loop-i.invariant (omega arith) (omega arith) in
    record { same_buffer = refl; put = record { bytes = written_part _ _ _ word (omega arith); place = refl } }
