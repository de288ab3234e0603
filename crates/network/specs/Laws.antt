-- What is proved of the flow rule and the image of a box (proofs/ of this crate). Statements only.
use Rattle.std.specs.Prelude.{ℕ, ◌+◌, ◌*◌, ◌-◌, ◌^◌, ◌≤◌, ◌<◌, List, Bool, true, false, ◌≡◌, ◌↔◌}
use Rattle.certificate.specs.Facts.{Readable}
use Rattle.certificate.specs.Loops.{pick, sum_to}
use Rattle.certificate.specs.Layout.{remembers, max_pull_sum, links_of, turns_of, signals_of, cap_of, flow_of, start_flow_of, from_of, to_of, pull_of, green_byte_of, entries_of, signal_of}
use Rattle.network.specs.Network.{Network, network_of, is_green, limit_of, entry_limit}
use Rattle.network.specs.Flow.{sent, gross, next}
use Rattle.network.specs.Conditions.{pull_sum, screening_of}
use Rattle.network.specs.Image.{low_end, high_end, exceeds_cap}
use Rattle.network.specs.Sound.{Joined, Sound, Pushes, Within}

-- The flow rule, in plain terms.

-- link j sends at most its queue, its limit and pull × (cap − queue) / 100 of each link that it turns into, and no less than all these allow: the least
pub record SendsLeast (N : Network) (limit : ℕ → ℕ) (D : ℕ) (x : ℕ → ℕ) (j : ℕ) : Type 0 where
  pub by_queue : sent N limit D x j ≤ 100 * x j
  pub by_limit : sent N limit D x j ≤ 100 * (D * limit j)
  pub by_room : (t : ℕ) → t < N.turns → N.from t ≡ j → sent N limit D x j ≤ N.pull t * (D * N.cap (N.to t) - x (N.to t))
  pub no_less : (k : ℕ) → k ≤ 100 * x j → k ≤ 100 * (D * limit j)
      → ((t : ℕ) → t < N.turns → N.from t ≡ j → k ≤ N.pull t * (D * N.cap (N.to t) - x (N.to t))) → k ≤ sent N limit D x j

abbrev pub SentIsLeast : Type 0
SentIsLeast = (N : Network) (limit : ℕ → ℕ) (D : ℕ) (x : ℕ → ℕ) (j : ℕ) → SendsLeast N limit D x j

-- no vehicle is made or lost: all that waits after a step, not cut at cap, and all that is sent is all that waited, all that arrives and all that
-- turns pass on, each turn its share of what its from link sends
abbrev pub Conserved : Type 0
Conserved =
    (N : Network) → Joined N → (limit : ℕ → ℕ) (D : ℕ) (x a : ℕ → ℕ)
    → sum_to N.links (gross N limit D x a) + 100 * sum_to N.links (sent N limit D x)
    ≡ 10000 * sum_to N.links x + 10000 * sum_to N.links a + sum_to N.turns (λ t. N.share t * sent N limit D x (N.from t))

-- the byte of a signal is the sum of the values of its green links, 2 to the l for link l
abbrev pub GreenByte : Type 0
GreenByte =
    (s : List ℕ) → Readable s → (g : ℕ) → g < signals_of s
    → green_byte_of s g ≡ sum_to (links_of s) (λ l. pick (is_green s g l) (2 ^ l) 0)

-- red links add nothing to a pull sum
abbrev pub RedPullsNothing : Type 0
RedPullsNothing =
    (N : Network) (green : ℕ → Bool) (l : ℕ) → ((t : ℕ) → t < N.turns → N.to t ≡ l → green (N.from t) ≡ false) → pull_sum N green l ≡ 0

-- Monotone (004, Theorem 1): what pushes link l higher leaves it at least as high, before the cut at cap and after it
abbrev pub Monotone : Type 0
Monotone =
    (N : Network) (green : ℕ → Bool) (limit : ℕ → ℕ) → Sound N green limit → (D l : ℕ) → l < N.links
    → (x y a b : ℕ → ℕ) → Pushes N l x y → a l ≤ b l
    → (gross N limit D x a l ≤ gross N limit D y b l) × (next N limit D x a l ≤ next N limit D y b l)

-- the rule does not depend on the scale chosen: over k times the scale the next queues are k times as large
abbrev pub ScaleFree : Type 0
ScaleFree =
    (N : Network) (limit : ℕ → ℕ) (k D : ℕ) (x a : ℕ → ℕ) (l : ℕ)
    → (gross N limit (k * D) (λ j. k * x j) (λ j. k * a j) l ≡ k * gross N limit D x a l)
    × (next N limit (k * D) (λ j. k * x j) (λ j. k * a j) l ≡ k * next N limit D x a l)

-- the next queue never exceeds cap
abbrev pub NextFits : Type 0
NextFits = (N : Network) (limit : ℕ → ℕ) (D : ℕ) (x a : ℕ → ℕ) (l : ℕ) → next N limit D x a l ≤ 10000 * (D * N.cap l)

-- with no arrivals it would not even without the cut
abbrev pub GrossFits : Type 0
GrossFits =
    (N : Network) (green : ℕ → Bool) (limit : ℕ → ℕ) → Sound N green limit → (D : ℕ) (x : ℕ → ℕ) (l : ℕ) → l < N.links
    → x l ≤ D * N.cap l → gross N limit D x (λ _. 0) l ≤ 10000 * (D * N.cap l)

-- Smallest box, first half: over every scale, all next queues from the closed box lie between the ends
abbrev pub Encloses : Type 0
Encloses =
    (N : Network) (green : ℕ → Bool) (limit : ℕ → ℕ) → Sound N green limit
    → (lower upper low high : ℕ → ℕ) (D : ℕ) (x a : ℕ → ℕ)
    → Within N.links lower upper D x → Within N.links low high D a → (l : ℕ) → l < N.links
    → (D * low_end N limit lower upper low l ≤ next N limit D x a l) × (next N limit D x a l ≤ D * high_end N limit lower upper high l)

-- some queues of the closed box and some arrivals of the arrival box, at scale 1, whose next queue on link l is v
abbrev pub IsMet : Network → (ℕ → ℕ) → (ℕ → ℕ) → (ℕ → ℕ) → (ℕ → ℕ) → (ℕ → ℕ) → ℕ → ℕ → Type 0
IsMet N limit lower upper low high l v =
    (x : ℕ → ℕ) × (a : ℕ → ℕ) × Within N.links lower upper 1 x × Within N.links low high 1 a × (next N limit 1 x a l ≡ v)

-- second half: each end is met
abbrev pub EndsMet : Type 0
EndsMet =
    (N : Network) (limit lower upper low high : ℕ → ℕ)
    → ((k : ℕ) → k < N.links → lower k ≤ upper k) → ((k : ℕ) → k < N.links → low k ≤ high k) → (l : ℕ)
    → IsMet N limit lower upper low high l (low_end N limit lower upper low l)
    × IsMet N limit lower upper low high l (high_end N limit lower upper high l)

-- over every scale D, P holds of each next queue of link l from the closed box and the arrival box
abbrev pub EachNext : Network → (ℕ → ℕ) → (ℕ → ℕ) → (ℕ → ℕ) → (ℕ → ℕ) → (ℕ → ℕ) → ℕ → (ℕ → ℕ → Type 0) → Type 0
EachNext N limit lower upper low high l P =
    (D : ℕ) (x a : ℕ → ℕ) → 1 ≤ D → Within N.links lower upper D x → Within N.links low high D a → P D (next N limit D x a l)

-- so every closed box that holds all next queues holds the image:
-- a fraction p / q that is at most each next queue of link l is at most its low end, and one that is at least each is at least its high end
abbrev pub Smallest : Type 0
Smallest =
    (N : Network) (limit lower upper low high : ℕ → ℕ)
    → ((k : ℕ) → k < N.links → lower k ≤ upper k) → ((k : ℕ) → k < N.links → low k ≤ high k) → (l p q : ℕ)
    → (EachNext N limit lower upper low high l (λ D v. p * (10000 * D) ≤ v * q) → p * 10000 ≤ low_end N limit lower upper low l * q)
    × (EachNext N limit lower upper low high l (λ D v. v * q ≤ p * (10000 * D)) → high_end N limit lower upper high l * q ≤ p * 10000)

-- link l's next queue, not cut at cap, exceeds cap for some queues of the closed box and some arrivals of the arrival box, over some scale
pub record Exceeds (N : Network) (limit lower upper low high : ℕ → ℕ) (l : ℕ) : Type 0 where
  pub scale : ℕ
  pub queues : ℕ → ℕ
  pub arrivals : ℕ → ℕ
  pub scale_least : 1 ≤ scale
  pub inside : Within N.links lower upper scale queues
  pub arriving : Within N.links low high scale arrivals
  pub above : 10000 * (scale * N.cap l) < gross N limit scale queues arrivals l

-- the image says so exactly where that is so
abbrev pub OverflowIsReal : Type 0
OverflowIsReal =
    (N : Network) (green : ℕ → Bool) (limit : ℕ → ℕ) → Sound N green limit → (lower upper low high : ℕ → ℕ)
    → ((k : ℕ) → k < N.links → lower k ≤ upper k) → ((k : ℕ) → k < N.links → low k ≤ high k) → (l : ℕ) → l < N.links
    → (exceeds_cap N limit lower upper high l ≡ true) ↔ Exceeds N limit lower upper low high l

-- a certificate that passes the tests before 12 is readable, and under each signal its network is sound
pub record Screened (s : List ℕ) : Type 0 where
  pub readable : Readable s
  pub pulls : (g l : ℕ) → g < signals_of s → l < links_of s → pull_sum (network_of s) (is_green s g) l ≤ max_pull_sum
  pub room : (t : ℕ) → t < turns_of s → 100 * flow_of s (from_of s t) ≤ pull_of s t * (cap_of s (to_of s t) - flow_of s (to_of s t))

abbrev pub ScreeningIsPlain : Type 0
ScreeningIsPlain = (s : List ℕ) → ((screening_of s).number ≡ 0) ↔ Screened s

-- whatever was shown before
abbrev pub ScreenedIsSound : Type 0
ScreenedIsSound = (s : List ℕ) → Screened s → (h g : ℕ) → g < signals_of s → Sound (network_of s) (is_green s g) (limit_of s h g)

-- hence under each entry
abbrev pub EntryIsSound : Type 0
EntryIsSound = (s : List ℕ) → Screened s → (e : ℕ) → e < entries_of s → Sound (network_of s) (is_green s (signal_of s e)) (entry_limit s e)

-- in HD a green link may send its flow and a red one nothing, whatever was shown before
abbrev pub PlainLimits : Type 0
PlainLimits = (s : List ℕ) → remembers s ≡ false → (h g l : ℕ) → limit_of s h g l ≡ pick (is_green s g l) (flow_of s l) 0

-- a link that is green in one step after another may send its flow in the second
abbrev pub StaysGreen : Type 0
StaysGreen = (s : List ℕ) (h g l : ℕ) → is_green s h l ≡ true → is_green s g l ≡ true → limit_of s h g l ≡ flow_of s l

-- one that turned green sends at most its start flow
abbrev pub TurnsGreen : Type 0
TurnsGreen = (s : List ℕ) (h g l : ℕ) → is_green s h l ≡ false → is_green s g l ≡ true → limit_of s h g l ≡ start_flow_of s l
