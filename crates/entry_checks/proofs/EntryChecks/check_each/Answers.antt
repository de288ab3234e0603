use Rattle.std.proofs.Common.{refl, arith}
use Rattle.octets.proofs.Outcomes.{go_on, stop, end}
use Rattle.entry_checks.proofs.EntryPairs.{key_none, key_next}
use Rattle.entry_checks.proofs.EntryChecks.check_each.Goals as goal

pub loop-e-init : goal.loop-e-init
loop-e-init c = (refl, key_none _)

pub check_entry-requires : goal.check_entry-requires
check_entry-requires c = (omega (arith, c.requires, c.loop-e-test.true), c.loop-e.invariant.1)

pub returns-in_err-least : goal.returns-in_err-least
returns-in_err-least c = stop _ _ c.from_residual.ensures.1 _ _ _ _ c.loop-e-test.true c.in_err-least.ensures.told c.loop-e.invariant.0

pub overflow_add-least : goal.overflow_add-least
overflow_add-least c = omega (arith, c.in_ok-least.ensures.key.most)

pub loop-e-preserved : goal.loop-e-preserved
loop-e-preserved c =
    let ok = c.in_ok-least.ensures in
    (go_on _ _ _ _ c.loop-e-test.true ok.told c.loop-e.invariant.0, key_next _ _ ok.key)

pub returns : goal.returns
returns c = end _ _ _ _ c.loop-e-test.false c.loop-e.invariant.0
