use Rattle.std.proofs.Common.{rules, arith}
use Rattle.comparing.proofs.Walking.{key_more}
use Rattle.comparing.proofs.matching.first_at.Goals as goal

pub returns-then-key-key_of : goal.returns-then-key-key_of
returns-then-key-key_of c = record { most = omega (arith, c.args.certificate.now.laid.entries_are); before = search rules; here = λ h. omega arith }

pub loop-k-preserved : goal.loop-k-preserved
loop-k-preserved c = key_more _ c.loop-k.k _ c.loop-k.invariant (omega (arith, c.key_of.ensures))

pub returns : goal.returns
returns c =
    let are = c.args.certificate.now.laid.entries_are in
    record { most = omega (arith, are); before = λ i h. c.loop-k.invariant i (omega arith); here = λ h. absurd (omega (arith, are)) }
