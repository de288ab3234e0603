-- What the links that turns lead into have room for: where each link's turns begin, their supplies, and the two least of them.
use Rattle.std.specs.Prelude.{ℕ, ◌+◌, ◌*◌, ◌-◌, ◌≤◌, ◌<◌, List, ◌≡◌, leb, eqb, length, get_or}
use Rattle.certificate.specs.Loops.{pick, find}
use Rattle.certificate.specs.Layout.{max_cap, max_links, max_turns, links_of, turns_of, cap_of, from_of, to_of, pull_of}
use Rattle.network.specs.Flow.{least_to}
use Rattle.supply.specs.declared.QueueBox.{QueueBox}
use Rattle.supply.specs.declared.SideSupplies.{SideSupplies}
use Rattle.supply.specs.declared.Two.{Two}

-- element k of an array
abbrev pub at : List ℕ → ℕ → ℕ
at xs k = get_or xs k 0

-- first has, of each link j, where its turns begin: the first turn from j or a later link. Pairs ascend, so a link's turns stand together
pub record FirstTurns (s first : List ℕ) : Type 0 where
  pub begins : (j : ℕ) → j < max_links + 1 → at first j ≡ find (turns_of s) (λ t. leb j (from_of s t))

-- no queue of a box exceeds its link's cap
pub record WithinCaps (s : List ℕ) (queues : QueueBox) : Type 0 where
  pub lower_fits : (l : ℕ) → l < links_of s → at queues.lower l ≤ cap_of s l
  pub upper_fits : (l : ℕ) → l < links_of s → at queues.upper l ≤ cap_of s l

-- what the to link of turn t has room for where the queues are x: pull × (cap − queue), in hundredths
abbrev pub supply_at : List ℕ → (ℕ → ℕ) → ℕ → ℕ
supply_at s x t = pull_of s t * (cap_of s (to_of s t) - x (to_of s t))

-- no link sends more, in hundredths: the greatest cap
abbrev pub most_sent : ℕ
most_sent = 100 * max_cap

-- two has the least of the numbers of f from `from` up to `end`, or the most that a link sends; and next the least without it,
-- so that of each of these numbers the least of the others is known
pub record TwoLeast (f : ℕ → ℕ) (from end : ℕ) (two : Two) : Type 0 where
  pub least_is : two.least ≡ least_to end (leb from) f most_sent
  pub ordered : (two.least ≤ two.next) × (two.next ≤ most_sent)
  pub others_is : (t : ℕ) → from ≤ t → t < end → pick (eqb (f t) two.least) two.next two.least ≡ least_to end (leb from) (λ u. pick (eqb u t) most_sent (f u)) most_sent

-- found has the supply of each turn from `from` up to `end` where the queues are x, and the two least of them
pub record Supplies (s : List ℕ) (x : ℕ → ℕ) (from end : ℕ) (found : SideSupplies) : Type 0 where
  pub long : length found.of_turn ≡ max_turns
  pub room : (t : ℕ) → from ≤ t → t < end → at found.of_turn t ≡ supply_at s x t
  pub two_least : TwoLeast (supply_at s x) from end found.two

-- what the link of turns from .. end sends by these supplies, at most `most`, with turn t's supply of near and the others' of far
abbrev pub sent_by : (ℕ → ℕ) → (ℕ → ℕ) → ℕ → ℕ → ℕ → ℕ → ℕ
sent_by near far from end most t = least_to end (leb from) (λ u. pick (eqb u t) (near u) (far u)) most
