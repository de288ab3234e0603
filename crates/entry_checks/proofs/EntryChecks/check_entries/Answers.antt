use Rattle.std.proofs.Common.{arith}
use Rattle.entry_checks.proofs.EntryPairs.{key_none, plain_fine}
use Rattle.entry_checks.proofs.EntryChecks.check_entries.Goals as goal

pub loop-e-init : goal.loop-e-init
loop-e-init c = ((λ k lt. absurd (omega arith)), key_none _)

pub returns : goal.returns
returns c = plain_fine _ _ (λ k lt. c.loop-e.invariant.0 k (omega (arith, c.loop-e-test.false))) c.args.self.now.memory_is c.if-self.false
