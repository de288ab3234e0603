-- `octets::marked_as` meets its contract. Past the end stands 0, which is no mark's second byte.
use Prim.Native.Nat.{◌+◌}
use mathlib.Core.Bool.{Bool, true, false, ◌&&◌}
use mathlib.Core.Path.{◌≡◌, refl}
use native.Mathlib.Omega.{arith}
use borrow.Author.Tests.{ne_eqb}
use lib.ListN.{get_or-eq_default}
use lib.Dec.{eqb}
use Rattle.certificate.specs.Octets.{byte_at}
use Rattle.certificate.specs.Checks.{marked}
use Rattle.octets.proofs.marked_as.Goals as goal

-- a test of two bytes fails where the second does
second_fails : (first : Bool) → false ≡ (first && false)
second_fails true = refl
second_fails false = refl

pub returns-then-s-o : goal.returns-then-s-o
unfolding marked
returns-then-s-o c =
    let a = c.args in
    let past : byte_at a.s.now (a.o + 1) ≡ 0 = get_or-eq_default a.s.now 0 (omega arith) in
    rw (past, ne_eqb 0 a.k (omega arith)) (second_fails (eqb (byte_at a.s.now a.o) a.m))
