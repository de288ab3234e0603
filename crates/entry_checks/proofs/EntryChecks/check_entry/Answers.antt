-- `entry_checks::EntryChecks::check_entry` meets its contract.
use Rattle.std.proofs.Common.{refl, ◌∙◌, arith}
use Rattle.certificate.specs.Checks.{fine}
use Rattle.octets.proofs.Cases.{opened-whole}
use Rattle.octets.proofs.Outcomes.{left_first, then_next, need_left, need_next}
use Rattle.entry_checks.proofs.EntryPairs.{key_ascends, entry_tests}
use Rattle.entry_checks.proofs.EntryChecks.check_entry.Goals as goal

pub returns-in_err-check_opened-clause-told : goal.returns-in_err-check_opened-clause-told
returns-in_err-check_opened-clause-told c =
    left_first _ _ c.from_residual.ensures.1 _ _ c.in_err-check_opened.ensures
    ∙ entry_tests _ _ c.record_at-at.ensures.0 c.marked_as-mark.ensures refl refl refl refl

pub invariant_of-entry : goal.invariant_of-entry
invariant_of-entry c = record {
  placed = c.record_at-at.ensures.0;
  low = omega (arith, c.record_at-at.ensures.1);
  whole = opened-whole _ _ _ _ {f = fine} (omega arith) c.in_ok-check_opened.ensures refl;
}

pub returns-in_err-require-clause-told : goal.returns-in_err-require-clause-told
returns-in_err-require-clause-told c =
    then_next _ _ _ c.in_ok-check_opened.ensures
    (need_left _ _ c.from_residual-in_err-require.ensures.1 _ 9 _ _ c.in_err-require.ensures)
    ∙ entry_tests _ _ c.record_at-at.ensures.0 c.marked_as-mark.ensures c.names_exist.ensures refl refl refl

pub returns-in_err-require-2-clause-told : goal.returns-in_err-require-2-clause-told
returns-in_err-require-2-clause-told c =
    then_next _ _ _ c.in_ok-check_opened.ensures
    (need_next _ 8 _ _ _ c.in_ok-require.ensures
    (need_left _ _ c.from_residual-in_err-require-2.ensures.1 _ 22 _ _ c.in_err-require-2.ensures))
    ∙ entry_tests _ _ c.record_at-at.ensures.0 c.marked_as-mark.ensures c.names_exist.ensures (key_ascends _ _ c.key-key.ensures c.requires.1) refl refl

pub returns-in_err-require-3-clause-told : goal.returns-in_err-require-3-clause-told
returns-in_err-require-3-clause-told c =
    then_next _ _ _ c.in_ok-check_opened.ensures
    (need_next _ 8 _ _ _ c.in_ok-require.ensures
    (need_next _ 21 _ _ _ c.in_ok-require-2.ensures
    (need_left _ _ c.from_residual-in_err-require-3.ensures.1 _ 23 _ _ c.in_err-require-3.ensures)))
    ∙ entry_tests _ _ c.record_at-at.ensures.0 c.marked_as-mark.ensures c.names_exist.ensures (key_ascends _ _ c.key-key.ensures c.requires.1) c.passes_on.ensures refl

pub returns-in_err-require-4-clause-told : goal.returns-in_err-require-4-clause-told
returns-in_err-require-4-clause-told c =
    then_next _ _ _ c.in_ok-check_opened.ensures
    (need_next _ 8 _ _ _ c.in_ok-require.ensures
    (need_next _ 21 _ _ _ c.in_ok-require-2.ensures
    (need_next _ 22 _ _ _ c.in_ok-require-3.ensures
    (need_left _ _ c.from_residual-in_err-require-4.ensures.1 _ 24 _ _ c.in_err-require-4.ensures))))
    ∙ entry_tests _ _ c.record_at-at.ensures.0 c.marked_as-mark.ensures c.names_exist.ensures (key_ascends _ _ c.key-key.ensures c.requires.1) c.passes_on.ensures c.turns_on.ensures

pub returns-clause-told : goal.returns-clause-told
returns-clause-told c =
    then_next _ _ _ c.in_ok-check_opened.ensures
    (need_next _ 8 _ _ _ c.in_ok-require.ensures
    (need_next _ 21 _ _ _ c.in_ok-require-2.ensures
    (need_next _ 22 _ _ _ c.in_ok-require-3.ensures
    (need_next _ 23 _ _ _ c.in_ok-require-4.ensures refl))))
    ∙ entry_tests _ _ c.record_at-at.ensures.0 c.marked_as-mark.ensures c.names_exist.ensures (key_ascends _ _ c.key-key.ensures c.requires.1) c.passes_on.ensures c.turns_on.ensures
