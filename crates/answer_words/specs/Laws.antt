-- What is proved of answers and queues as they cross to C (proofs/ of this crate). Statements only.
use Rattle.std.specs.Prelude.{ℕ, ◌*◌, ◌≤◌, ◌<◌, List, ◌≡◌, length}
use Rattle.certificate.specs.declared.Report.{Report}
use Rattle.certificate.specs.Layout.{max_links}
use Rattle.judging.specs.Asking.{queue_at}
use Rattle.packed_state.specs.State.{quad_at}
use Rattle.held_state.specs.declared.Display.{Display}
use Rattle.answer_words.specs.Words.{display_word, verdict_word, DisplayFits, LoadFits, DisplayParts, VerdictParts, queue_size, queues_in}

-- parts that fit are read back from the number
abbrev pub DisplayReadsBack : Type 0
DisplayReadsBack = (d : Display) → DisplayFits d → DisplayParts (display_word d) d

abbrev pub VerdictReadsBack : Type 0
VerdictReadsBack = (r : Report) (overflows : ℕ) → LoadFits r overflows → VerdictParts (verdict_word r overflows) r overflows

-- the bytes of n queues are n queues, each the number of its four bytes
abbrev pub QueuesAre : Type 0
QueuesAre =
    (b : List ℕ) (n : ℕ) → n ≤ max_links → length b ≡ queue_size * n
    → (length (queues_in b) ≡ n) × ((l : ℕ) → l < n → queue_at (queues_in b) l ≡ quad_at b (queue_size * l))
