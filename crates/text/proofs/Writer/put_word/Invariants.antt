-- `text::Writer::put_word` meets its contract.
use Rattle.text.proofs.Placing.{Copied}
use Rattle.text.proofs.Writer.put_word.Given as goal

abbrev pub invariant-loop-i : goal.invariant-loop-i
invariant-loop-i l = Copied l.word l.initial.byte-items l.i l.byte-items
