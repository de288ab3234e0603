-- `answer_words::display_word` meets its contract.
use Rattle.std.proofs.Common.{arith}
use Rattle.answer_words.specs.Words.{display_word}
use Rattle.answer_words.proofs.display_word.Goals as goal

pub returns : goal.returns
unfolding display_word
returns c = omega arith
