-- `entry_search::boxes::ends_under` meets its contract.
use Prim.Native.Nat.{ℕ, ◌+◌, ◌*◌, ◌<◌, min}
use mathlib.Core.Bool.{Bool, false}
use mathlib.Core.List.{List}
use mathlib.Core.Path.{◌≡◌}
use lib.Dec.{ltb}
use lib.ListN.{length, get_or}
use Rattle.certificate.specs.Loops.{any_to}
use Rattle.octets.proofs.FilledTables.{Filled}
use Rattle.entry_search.proofs.boxes.ends_under.Given as goal

-- what arrives by the end is added to what was before it
abbrev pub uncut : List ℕ → List ℕ → ℕ → ℕ → ℕ
uncut before arrivals from k = get_or before k 0 + get_or arrivals (from + 2 * k) 0

abbrev pub exceeding : List ℕ → List ℕ → List ℕ → ℕ → ℕ → Bool
exceeding caps before arrivals from k = ltb (get_or caps k 0) (uncut before arrivals from k)

abbrev pub invariant-loop-l : goal.invariant-loop-l
invariant-loop-l l =
    Filled 8 l.l (λ k. min (get_or l.tables.caps.now k 0) (uncut l.before l.tables.arrivals.now l.from k)) l.ends
    × (length l.over ≡ 8) × ((k : ℕ) → k < l.l → get_or l.over k false ≡ exceeding l.tables.caps.now l.before l.tables.arrivals.now l.from k)
    × (l.any ≡ any_to l.l (exceeding l.tables.caps.now l.before l.tables.arrivals.now l.from))
