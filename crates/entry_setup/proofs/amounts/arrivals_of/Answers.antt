use Prim.Native.Nat.{◌*◌}
use native.Mathlib.Omega.{arith}
use Rattle.entry_setup.proofs.Arrivals.{arrivals_filled}
use Rattle.entry_setup.proofs.amounts.arrivals_of.Goals as goal

pub returns : goal.returns
returns c =
    let a = c.args.arrivals.now in
    arrivals_filled a.bytes.now c.loop-k.amounts (16 * c.args.boxes) (omega (arith, a.counted, a.few)) (omega arith) (λ k lt. c.loop-k.invariant.1 k (omega arith))
