-- `comparing::matching::all_matched` meets its contract.
use Rattle.std.proofs.Common.{◌≡◌, ◌≤◌, ◌<◌}
use Rattle.certificate.specs.Layout.{entries_of}
use Rattle.certificate.specs.Loops.{every_from, every}
use Rattle.covering.specs.Covering.{is_matched}
use Rattle.comparing.specs.Walk.{key_of, KeysBelow}
use Rattle.comparing.proofs.matching.all_matched.Given as goal

abbrev pub invariant-loop-f : goal.invariant-loop-f
invariant-loop-f l =
    let s = l.s.bytes.now in
    let t = l.t.bytes.now in
    (every_from (entries_of t) (is_matched s t) l.f ≡ every (entries_of t) (is_matched s t))
    × (l.e ≤ entries_of s) × (l.f < entries_of t → KeysBelow s l.e (key_of t l.f))
