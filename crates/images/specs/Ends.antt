-- What the code of the image goes by: limits, what links pass on, one side of the image, and its ends before arrivals.
use Rattle.std.specs.Prelude.{ℕ, ◌+◌, ◌*◌, ◌≤◌, ◌<◌, min, List, ◌≡◌, leb, eqb}
use Rattle.certificate.specs.Loops.{pick, sum_to}
use Rattle.certificate.specs.Layout.{max_cap, links_of, to_of, share_of}
use Rattle.network.specs.Network.{Network, network_of}
use Rattle.network.specs.Flow.{least_to, supply, sent, gross}
use Rattle.network.specs.Image.{low_corner, high_corner}
use Rattle.screening.specs.NetworkParts.{into}
use Rattle.supply.specs.declared.QueueBox.{QueueBox}
use Rattle.supply.specs.Supply.{most_sent, at}
use Rattle.images.specs.declared.ends.Ends.{Ends}

-- in ten thousandths: the greatest cap; the most that a turn may pass, by the greatest byte as its share; a bound of all ends before arrivals
abbrev pub most_queue : ℕ
most_queue = 10000 * max_cap

abbrev pub most_passed : ℕ
most_passed = 255 * most_sent

abbrev pub end_bound : ℕ
end_bound = 10000000000

-- limits has the most that each link may send, none above 10,000
pub record LimitsFit (s limits : List ℕ) : Type 0 where
  pub most : (l : ℕ) → l < links_of s → at limits l ≤ 10000

-- after is before with what turns from .. end carry, f t each, added to the links that they lead to, and `less` taken from link l
pub record PassedOn (s : List ℕ) (f : ℕ → ℕ) (from end l less : ℕ) (before after : List ℕ) : Type 0 where
  pub adds : (k : ℕ) → k < links_of s → at after k + pick (eqb k l) less 0 + sum_to from (into (to_of s) f k) ≡ at before k + sum_to end (into (to_of s) f k)
  pub most : (k : ℕ) → k < links_of s → at after k ≤ most_queue + end * most_passed

-- what the from link of turn t sends where own queues stand on it and on the link that t leads into, and others on the rest
abbrev pub pushed : Network → (ℕ → ℕ) → (ℕ → ℕ) → (ℕ → ℕ) → ℕ → ℕ
pushed N limit own other t =
    least_to N.turns (λ u. eqb (N.from u) (N.from t)) (λ u. pick (eqb u t) (supply N limit 1 own u) (supply N limit 1 other u))
    (min (100 * own (N.from t)) (100 * (1 * limit (N.from t))))

-- side has, of each link, its next queue before arrivals at the corner of own and other queues, as far as the links before l send, in ten thousandths of a vehicle
pub record SideSoFar (s : List ℕ) (limit own other : ℕ → ℕ) (first : List ℕ) (l : ℕ) (side : List ℕ) : Type 0 where
  pub is : (k : ℕ) → k < links_of s
      → at side k + pick (leb l k) 0 (100 * sent (network_of s) limit 1 own k)
      ≡ 10000 * own k + sum_to (at first l) (into (to_of s) (λ t. share_of s t * pushed (network_of s) limit own other t) k)
  pub most : (k : ℕ) → k < links_of s → at side k ≤ most_queue + at first l * most_passed

-- ends has both sides of a box's image as far as the links before l send
pub record EndsSoFar (s : List ℕ) (limit : ℕ → ℕ) (queues : QueueBox) (first : List ℕ) (l : ℕ) (ends : Ends) : Type 0 where
  pub low : SideSoFar s limit (at queues.lower) (at queues.upper) first l ends.low
  pub high : SideSoFar s limit (at queues.upper) (at queues.lower) first l ends.high

-- ends has the ends of the image of a closed box before arrivals
pub record EndsBefore (s : List ℕ) (limit : ℕ → ℕ) (queues : QueueBox) (ends : Ends) : Type 0 where
  pub low_is : (l : ℕ) → l < links_of s → at ends.low l ≡ gross (network_of s) limit 1 (low_corner (network_of s) l (at queues.lower) (at queues.upper)) (λ _. 0) l
  pub high_is : (l : ℕ) → l < links_of s → at ends.high l ≡ gross (network_of s) limit 1 (high_corner (network_of s) l (at queues.lower) (at queues.upper)) (λ _. 0) l
  pub low_most : (l : ℕ) → l < links_of s → at ends.low l ≤ end_bound
  pub high_most : (l : ℕ) → l < links_of s → at ends.high l ≤ end_bound
