-- `comparing::matching::matched_by` meets its contract.
use Rattle.std.proofs.Common.{◌≡◌, ◌∙◌}
use mathlib.Core.Bool.{◌&&◌}
use lib.Dec.{ltb, eqb}
use borrow.Author.Tests.{lt-ltb, le-ltb}
use Rattle.certificate.specs.Layout.{entries_of}
use Rattle.comparing.specs.Walk.{key_of, is_matched_by}
use Rattle.comparing.proofs.matching.matched_by.Goals as goal
use Rattle.comparing.proofs.matching.matched_by.Goals.{then-e-s, else-e-s}

pub returns-then-key_of : goal.returns-then-key_of
unfolding is_matched_by
returns-then-key_of c =
    let a = c.args in
    let keys : c.if-e-s.value ≡ (ltb a.e (entries_of a.s.now.bytes.now) && eqb (key_of a.s.now.bytes.now a.e) (key_of a.t.now.bytes.now a.f)) =
    elim c.if-e-s.branch [
      | then-e-s w ↦ w.value-is ∙ rw (← a.s.now.laid.entries_are, lt-ltb _ _ w.if-e-s.true, w.key_of.ensures, w.key_of-then-e-s.ensures)
      | else-e-s w ↦ w.value-is ∙ rw (← a.s.now.laid.entries_are, le-ltb _ _ w.if-e-s.false)
    ] in
    rw (← keys, c.if-key_of.true, ← c.rank_of.ensures.0, ← c.rank_of-then-key_of.ensures.0)

pub returns-else-key_of : goal.returns-else-key_of
unfolding is_matched_by
returns-else-key_of c =
    let a = c.args in
    let keys : c.if-e-s.value ≡ (ltb a.e (entries_of a.s.now.bytes.now) && eqb (key_of a.s.now.bytes.now a.e) (key_of a.t.now.bytes.now a.f)) =
    elim c.if-e-s.branch [
      | then-e-s w ↦ w.value-is ∙ rw (← a.s.now.laid.entries_are, lt-ltb _ _ w.if-e-s.true, w.key_of.ensures, w.key_of-then-e-s.ensures)
      | else-e-s w ↦ w.value-is ∙ rw (← a.s.now.laid.entries_are, le-ltb _ _ w.if-e-s.false)
    ] in
    rw (← keys, c.if-key_of.false)
