-- Flow rule of document 01. Queues x and arrivals a are whole numbers over one scale D; a step is over 10,000 times that scale.
use Rattle.std.specs.Prelude.{ℕ, zero, suc, ◌+◌, ◌*◌, ◌-◌, min, Bool, eqb}
use Rattle.certificate.specs.Loops.{pick, sum_to}
use Rattle.network.specs.Network.{Network}

-- the least of b and each f t for which the test holds, over the indices below n
unfoldable pub least_to : ℕ → (ℕ → Bool) → (ℕ → ℕ) → ℕ → ℕ
least_to zero p f b = b
least_to (suc n) p f b = pick (p n) (min (f n) (least_to n p f b)) (least_to n p f b)

-- N is the network, limit the most that each link may send (network `limit_of`: 0 for a red link, its flow or start flow for a green one), D the scale
module _ (N : Network) (limit : ℕ → ℕ) (D : ℕ) where
  -- what the link that turn t leads into has room for, by the turn's pull: pull × (cap − queue) / 100; over 100 × D
  abbrev pub supply : (ℕ → ℕ) → ℕ → ℕ
  supply x t = N.pull t * (D * N.cap (N.to t) - x (N.to t))

  -- what link j sends: the least of its queue, its limit, and the supply of each link that it turns into; over 100 × D
  unfoldable pub sent : (ℕ → ℕ) → ℕ → ℕ
  sent x j =
      least_to N.turns (λ t. eqb (N.from t) j) (supply x) (min (100 * x j) (100 * (D * limit j)))

  -- what is passed into link l: share / 100 of what the from link of each turn into it sends; over 10,000 × D
  unfoldable pub passed_in : (ℕ → ℕ) → ℕ → ℕ
  passed_in x l = sum_to N.turns (λ t. pick (eqb (N.to t) l) (N.share t * sent x (N.from t)) 0)

  -- queue − sent + passed in + arrivals, not yet cut at cap; over 10,000 × D
  unfoldable pub gross : (ℕ → ℕ) → (ℕ → ℕ) → ℕ → ℕ
  gross x a l = 10000 * x l - 100 * sent x l + passed_in x l + 10000 * a l

  -- the next queue of link l: the least of its cap and that; over 10,000 × D
  unfoldable pub next : (ℕ → ℕ) → (ℕ → ℕ) → ℕ → ℕ
  next x a l = min (10000 * (D * N.cap l)) (gross x a l)
