-- What crosses as bytes: a state of another length, and a query's queues. Assumes nothing.
use mathlib.Core.Path.{◌≡◌, ◌∙◌}
use native.Mathlib.Omega.{arith}
use Rattle.certificate.specs.Checks.{refusal}
use Rattle.controller.specs.State.{fresh_state}
use Rattle.controller.proofs.Holding.{fresh_holds_none}
use Rattle.controller.proofs.Lookups.{improper}
use Rattle.packed_state.proofs.Packing.{other_length}
use Rattle.polls.specs.Poll.{poll_of}
use Rattle.polls.proofs.Answers.{poll_empty, poll_refused}
use Rattle.answer_words.specs.Words.{queues_in}
use Rattle.answer_words.proofs.Queuing.{queues_count}
use Rattle.roadside.specs.Laws.{PollOtherLength, QueueBytes}

pub poll_other_length : PollOtherLength
poll_other_length state p h =
    let report : (poll_of fresh_state p).report ≡ refusal 18 0 = (poll_empty fresh_state p).1 fresh_holds_none in
    let some : (poll_of fresh_state p).report.number ≡ 0 → ⊥ = rw report (λ z. omega arith) in
    rw (other_length state h) (poll_refused fresh_state p some ∙ rw report)

pub queue_bytes_lem : QueueBytes
queue_bytes_lem c b scale h other =
    improper c (queues_in b) scale h (λ p. other (queues_count b _ h.screened.readable.header.links_least p.number))
