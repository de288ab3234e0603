use Rattle.std.proofs.Common.{arith, ℕ, ◌<◌, ◌≡◌, ◌∙◌, sym, false, get_or}
use borrow.Author.Count.{below_none}
use lib.ListN.{length-set}
use Rattle.certificate.specs.Layout.{links_of}
use Rattle.certificate.proofs.Loops.{any_none, any_more, any_same}
use Rattle.octets.proofs.FilledTables.{filled_more, entries_more}
use Rattle.entry_setup.specs.Bytes.{bytes_of}
use Rattle.entry_search.proofs.boxes.ends_under.Invariants.{exceeding}
use Rattle.entry_search.proofs.boxes.ends_under.Goals as goal

pub loop-l-init : goal.loop-l-init
loop-l-init c = ((c.told-ends, below_none _), c.told-over, below_none _, any_none _)

pub loop-l-preserved : goal.loop-l-preserved
loop-l-preserved c =
    let v = c.loop-l.invariant in
    let tables = c.args.tables.now in (
      filled_more 8 _ _ _ _ v.0 (omega arith) c.end_of.ensures,
      length-set c.loop-l.over c.loop-l.l c.exceeds-exceeds.result ∙ v.1,
      entries_more false (λ k q. q ≡ exceeding tables.caps.now c.args.before.now tables.arrivals.now c.args.from k) c.loop-l.l c.loop-l.over c.exceeds-exceeds.result (omega (arith, v.1)) v.2 c.exceeds-exceeds.ensures,
      any_more _ _ v.3 c.exceeds-exceeds.ensures,
    )

pub returns : goal.returns
returns c =
    let v = c.loop-l.invariant in
    let n = links_of (bytes_of c.args.tables.now) in
    let end : c.loop-l.l ≡ n = omega (arith, c.args.tables.now.certificate.now.laid.links_are) in
    let over : (k : ℕ) → k < n → get_or c.loop-l.over k false ≡ _ = λ k lt. v.2 k (omega (arith, end)) in
    (λ k lt. v.0.1 k (omega (arith, end)), over, (rw end at v.3) ∙ sym (any_same n _ _ over))
