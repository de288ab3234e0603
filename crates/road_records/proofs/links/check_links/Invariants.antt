-- `road_records::links::check_links` meets its contract.
use Prim.Native.Nat.{◌-◌}
use mathlib.Core.Path.{◌≡◌}
use Rattle.certificate.specs.Checks.{first_from}
use Rattle.certificate.specs.Records.{link_fault}
use Rattle.road_records.proofs.links.check_links.Given as goal

abbrev pub invariant-loop-l : goal.invariant-loop-l
invariant-loop-l l = first_from l.links (link_fault l.s) l.l ≡ first_from l.links (link_fault l.s) 0

abbrev pub decreases-loop-l : goal.decreases-loop-l
decreases-loop-l l = l.links - l.l
