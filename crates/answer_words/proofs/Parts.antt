-- The parts of an answer's number, read back by division. Assumes nothing.
use native.Mathlib.Omega.{arith}
use Rattle.answer_words.specs.Words.{display_word, verdict_word}
use Rattle.answer_words.specs.Laws.{DisplayReadsBack, VerdictReadsBack}

pub display_reads_back : DisplayReadsBack
unfolding display_word
display_reads_back d f =
    record { number = omega arith; place = omega arith; count = omega arith; signal = omega arith; green = omega arith; alone = f.alone }

pub verdict_reads_back : VerdictReadsBack
unfolding verdict_word
verdict_reads_back r overflows f =
    record {
      number = omega arith;
      place_a = λ bad. omega (arith, f.refused bad);
      overflow = λ z. omega (arith, f.accepted z);
      place_b = omega arith;
      count = omega arith;
    }
