-- `answer_words::read_queues` meets its contract: the loop has the queues passed.
use Rattle.std.proofs.Common.{◌*◌}
use Rattle.certificate.specs.Layout.{max_links}
use Rattle.octets.proofs.FilledTables.{Filled}
use Rattle.packed_state.specs.State.{quad_at}
use Rattle.answer_words.specs.Words.{queue_size}
use Rattle.answer_words.proofs.read_queues.Given as goal

abbrev pub invariant-loop-l : goal.invariant-loop-l
invariant-loop-l l = Filled max_links l.l (λ k. quad_at l.bytes (queue_size * k)) l.of
