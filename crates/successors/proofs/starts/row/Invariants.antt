-- `successors::starts::row` meets its contract. The loop fills the row number by number; all else is as it was.
use Rattle.std.proofs.Common.{ℕ, ◌+◌, ◌*◌, ◌≤◌, ◌<◌, ◌≡◌, ◌⊎◌, get_or}
use Rattle.successors.proofs.starts.row.Given as goal

abbrev pub invariant-loop-m : goal.invariant-loop-m
invariant-loop-m l =
    ((x : ℕ) → x < l.m → get_or l.starts (l.at + x) 0 ≡ get_or l.initial.starts x 0 * l.count + l.i)
    × ((x : ℕ) → (x < l.at) ⊎ (l.at + l.m ≤ x) → get_or l.starts x 0 ≡ get_or l.initial.starts x 0)
