use Rattle.std.proofs.Common.{Err, refl, sym, ◌∙◌, arith}
use Rattle.octets.proofs.Outcomes.{need_left, need_next, go_on, stop, end}
use Rattle.entry_checks.proofs.EntryChecks.check_memories.Goals as goal

pub invariant_of-entry : goal.invariant_of-entry
invariant_of-entry c = record {
  placed = c.record_at-at.ensures.0;
  low = omega (arith, c.record_at-at.ensures.1);
  whole = rw c.record_at-at.ensures.0 (c.requires.1 _ c.loop-e-test.true).whole;
}

pub returns-in_err-require : goal.returns-in_err-require
returns-in_err-require c =
    let due = rw (← c.record_at-at.ensures.0, ← c.passes_on.ensures) at (sym (c.requires.1 _ c.loop-e-test.true).rest) in
    stop _ _ c.from_residual.ensures.1 _ _ _ _ c.loop-e-test.true (need_left {T = Unit {0}} (Err _) _ refl _ 23 _ _ c.in_err-require.ensures ∙ due) c.loop-e.invariant

pub returns-in_err-require-2 : goal.returns-in_err-require-2
returns-in_err-require-2 c =
    let due = rw (← c.record_at-at.ensures.0, ← c.passes_on.ensures, ← c.turns_on.ensures) at (sym (c.requires.1 _ c.loop-e-test.true).rest) in
    stop _ _ c.from_residual-in_err-require-2.ensures.1 _ _ _ _ c.loop-e-test.true (need_next _ 22 _ _ _ c.in_ok-require.ensures c.in_err-require-2.ensures ∙ due) c.loop-e.invariant

pub loop-e-preserved : goal.loop-e-preserved
loop-e-preserved c =
    let due = rw (← c.record_at-at.ensures.0, ← c.passes_on.ensures, ← c.turns_on.ensures) at (sym (c.requires.1 _ c.loop-e-test.true).rest) in
    go_on _ _ _ _ c.loop-e-test.true (need_next _ 22 _ _ _ c.in_ok-require.ensures c.in_ok-require-2.ensures ∙ due) c.loop-e.invariant

pub returns : goal.returns
returns c = end _ _ _ _ c.loop-e-test.false c.loop-e.invariant
