-- `asking::proper::is_proper` meets its contract.
use Rattle.std.proofs.Common.{◌≡◌, ◌∙◌, refl, leb, eqb, ◌&&◌, length}
use Rattle.certificate.specs.Octets.{◌also◌}
use Rattle.certificate.specs.Layout.{max_scale, links_of}
use Rattle.judging.specs.Asking.{is_proper}
use Rattle.header_record.proofs.Between.{between}
use Rattle.asking.proofs.proper.is_proper.Goals as goal
use Rattle.asking.proofs.proper.is_proper.Goals.{then-contains, else-contains}

pub returns-then-queues-certificate : goal.returns-then-queues-certificate
unfolding is_proper ◌also◌
returns-then-queues-certificate c =
    let scale : c.contains.result ≡ (leb 1 c.args.scale && leb c.args.scale max_scale) = between _ _ _ _ _ c.new.ensures.start c.new.ensures.end c.new.ensures.exhausted c.contains.ensures.value in
    let both : c.if-contains.value ≡ (c.contains.result && eqb (length c.args.queues.now) (links_of c.args.certificate.now.bytes.now)) =
    elim c.if-contains.branch [ then-contains w ↦ rw (w.if-contains.true, ← c.args.certificate.now.laid.links_are) w.value-is | else-contains w ↦ w.value-is ∙ rw w.if-contains.false refl ] in
    c.queues_fit.ensures ∙ rw (← scale, ← both, c.if-queues-certificate.true) refl

pub returns-else-queues-certificate : goal.returns-else-queues-certificate
unfolding is_proper ◌also◌
returns-else-queues-certificate c =
    let scale : c.contains.result ≡ (leb 1 c.args.scale && leb c.args.scale max_scale) = between _ _ _ _ _ c.new.ensures.start c.new.ensures.end c.new.ensures.exhausted c.contains.ensures.value in
    let both : c.if-contains.value ≡ (c.contains.result && eqb (length c.args.queues.now) (links_of c.args.certificate.now.bytes.now)) =
    elim c.if-contains.branch [ then-contains w ↦ rw (w.if-contains.true, ← c.args.certificate.now.laid.links_are) w.value-is | else-contains w ↦ w.value-is ∙ rw w.if-contains.false refl ] in
    c.if-queues-certificate.false ∙ rw (← scale, ← both, c.if-queues-certificate.false) refl
