-- The image of a closed box of queues: the smallest closed box that holds every next queue (the one-step reachable box), and for each link
-- whether its next queue, not cut at cap, exceeds cap.
-- A link's own queue and those upstream and downstream of it push its next queue up; links with the same tail push it down.
-- All entry links have tail 0 and so stand beside one another; no turn leads into an entry link, so that changes nothing.
use Rattle.std.specs.Prelude.{ℕ, ◌*◌, Bool, not, ◌&&◌, eqb, ltb}
use Rattle.certificate.specs.Loops.{pick}
use Rattle.network.specs.Network.{Network}
use Rattle.network.specs.Flow.{gross, next}

-- link k stands beside link l: the same tail, and not l itself
unfoldable pub beside : Network → ℕ → ℕ → Bool
beside N l k = eqb (N.tail k) (N.tail l) && not (eqb k l)

-- the corner of the box at which link l's next queue is least: links beside l at their upper edges, all others at their lower ones
unfoldable pub low_corner : Network → ℕ → (ℕ → ℕ) → (ℕ → ℕ) → ℕ → ℕ
low_corner N l lower upper k = pick (beside N l k) (upper k) (lower k)

-- the corner at which it is greatest: the other way round
unfoldable pub high_corner : Network → ℕ → (ℕ → ℕ) → (ℕ → ℕ) → ℕ → ℕ
high_corner N l lower upper k = pick (beside N l k) (lower k) (upper k)

-- the ends of link l's image of the box lower .. upper under arrivals low .. high, in ten thousandths of a vehicle
abbrev pub low_end : Network → (ℕ → ℕ) → (ℕ → ℕ) → (ℕ → ℕ) → (ℕ → ℕ) → ℕ → ℕ
low_end N limit lower upper low l = next N limit 1 (low_corner N l lower upper) low l

abbrev pub high_end : Network → (ℕ → ℕ) → (ℕ → ℕ) → (ℕ → ℕ) → (ℕ → ℕ) → ℕ → ℕ
high_end N limit lower upper high l = next N limit 1 (high_corner N l lower upper) high l

-- whether link l's next queue, not cut at cap, exceeds cap for some queues of the box and some arrivals: at the high corner it is greatest
unfoldable pub exceeds_cap : Network → (ℕ → ℕ) → (ℕ → ℕ) → (ℕ → ℕ) → (ℕ → ℕ) → ℕ → Bool
exceeds_cap N limit lower upper high l = ltb (10000 * N.cap l) (gross N limit 1 (high_corner N l lower upper) high l)
