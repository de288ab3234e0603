use Rattle.std.proofs.Common.{◌≡◌, ℕ, List, [], get_or, length, sym, ap, ◌∙◌, arith}
use mathlib.Core.Logic.{⊎_elim}
use borrow.Author.Tests.{eqb-true, eqb-false}
use Rattle.certificate.specs.Layout.{max_links}
use Rattle.octets.proofs.FilledTables.{filled_more}
use Rattle.answer_words.proofs.Queuing.{no_queues, too_many, not-whole, queues_read, quad_is}
use Rattle.answer_words.proofs.read_queues.Goals as goal

pub returns-then-not-is_empty : goal.returns-then-not-is_empty
returns-then-not-is_empty c =
    let b = c.args.bytes.now in
    let cut = c.as_chunks.ensures in
    sym (no_queues b (⊎_elim
    (λ some. not-whole b (λ z. eqb-false _ _ (sym c.is_empty.ensures ∙ some) (cut.back_len ∙ z)))
    (λ most. too_many b (omega (arith, most.1, cut.front_len)))
    c.then-not-is_empty.either))

pub loop-l-preserved : goal.loop-l-preserved
loop-l-preserved c =
    let l = c.loop-l.l in
    let cut = c.as_chunks.ensures in
    filled_more max_links l _ c.loop-l.of _ c.loop-l.invariant (omega arith)
    (quad_is c.args.bytes.now _ _ l _ (omega (arith, cut.front_len)) (ap (λ (q : List (List ℕ)). get_or q l []) cut.front) c.from_be_bytes.ensures)

pub returns : goal.returns
returns c =
    let b = c.args.bytes.now in
    let cut = c.as_chunks.ensures in
    let whole : length c.as_chunks.result.1.now ≡ 0 = eqb-true _ _ (sym c.is_empty.ensures ∙ c.if-not-is_empty.false) in
    let all : c.loop-l.l ≡ length c.as_chunks.result.0.now = omega arith in
    queues_read b c.loop-l.of _ cut.front_len (sym cut.back_len ∙ whole) (omega (arith, cut.front_len, cut.back_len, whole)) (rw all at c.loop-l.invariant)
