-- `successors::starts::widen` meets its contract. The loop adds the rows behind the first; that is made last.
use Rattle.std.proofs.Common.{ℕ, ◌+◌, ◌*◌, ◌-◌, ◌≤◌, ◌<◌, ◌≡◌, get_or}
use Rattle.successors.proofs.starts.widen.Given as goal

abbrev pub invariant-loop-i : goal.invariant-loop-i
invariant-loop-i l =
    (l.from < l.i)
    × (l.i ≤ l.to + 1)
    × (l.at ≡ (l.i - l.from) * l.n)
    × ((m : ℕ) → m < l.n → get_or l.starts m 0 ≡ get_or l.initial.starts m 0)
    × ((j m : ℕ) → l.from < j → j < l.i → m < l.n → get_or l.starts ((j - l.from) * l.n + m) 0 ≡ get_or l.initial.starts m 0 * l.count + j)
