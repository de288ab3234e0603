use native.Mathlib.Omega.{arith}
use Rattle.rank_tables.proofs.Finding.{between_here, between_beyond, between_end, for_least}
use Rattle.rank_tables.proofs.lookup.among.Goals as goal

pub loop-e-init : goal.loop-e-init
loop-e-init c = (omega arith, λ d f. rw f.0 (for_least _ d _))

pub returns-then-mode_of-m : goal.returns-then-mode_of-m
returns-then-mode_of-m c =
    (omega arith, λ d f. between_here _ d _ c.requires.0 _ _ _ f.1 (omega (arith, f.0)) (omega arith) (c.loop-e.invariant.1 d f) c.mode_of.ensures.0 c.if-mode_of-m.true)

pub loop-e-preserved : goal.loop-e-preserved
loop-e-preserved c =
    let i = c.loop-e.invariant in
    (omega arith, λ d f. between_beyond _ d _ _ _ _ f.1 (omega arith) (i.1 d f) c.mode_of.ensures.0 c.if-mode_of-m.false)

pub returns : goal.returns
returns c = (tt, λ d f. between_end _ d _ c.requires.0 _ _ f.1 (omega arith) (c.loop-e.invariant.1 d f))
