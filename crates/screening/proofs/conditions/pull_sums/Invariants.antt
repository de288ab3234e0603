-- `screening::conditions::pull_sums` meets its contract.
use Rattle.std.proofs.Common.{◌*◌}
use Rattle.certificate.specs.Octets.{bit_of}
use Rattle.certificate.specs.Loops.{pick}
use Rattle.certificate.specs.Layout.{links_of, from_of, to_of, share_of, pull_of}
use Rattle.screening.proofs.Summing.{Summed}
use Rattle.screening.proofs.conditions.pull_sums.Given as goal

abbrev pub invariant-loop-t : goal.invariant-loop-t
invariant-loop-t l =
    let s = l.certificate.bytes.now in
    Summed (links_of s) (to_of s) (λ u. pick (bit_of l.byte (from_of s u)) (share_of s u * pull_of s u) 0) (λ _. 0) (λ _. 0) 0 (100 * 10000) l.t l.sums
