-- `answer_words::verdict_word` meets its contract.
use Rattle.std.proofs.Common.{arith}
use Rattle.answer_words.specs.Words.{verdict_word}
use Rattle.answer_words.proofs.verdict_word.Goals as goal

pub returns-in-Ok : goal.returns-in-Ok
unfolding verdict_word
returns-in-Ok c = rw c.in-Ok.is (omega arith)

pub returns-in-Err : goal.returns-in-Err
unfolding verdict_word
returns-in-Err c = rw c.in-Err.is (omega arith)
