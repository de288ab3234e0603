-- `entry_setup::amounts::caps_of` meets its contract.
use Prim.Native.Nat.{◌*◌}
use Rattle.octets.proofs.FilledTables.{Filled}
use Rattle.certificate.specs.Layout.{cap_of}
use Rattle.entry_setup.proofs.amounts.caps_of.Given as goal

abbrev pub invariant-loop-l : goal.invariant-loop-l
invariant-loop-l l = Filled 8 l.l (λ k. 10000 * cap_of l.s k) l.caps
