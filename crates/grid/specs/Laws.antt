-- What is proved of intervals, cells, images and successors (proofs/ of this crate). Statements only.
use Rattle.std.specs.Prelude.{ℕ, ◌+◌, ◌*◌, ◌≤◌, ◌<◌, List, Bool, true, ◌↔◌, ◌≡◌}
use Rattle.certificate.specs.Layout.{links_of, cap_of, intervals_of, product_of, cells_of, boxes_of, low_of, high_of}
use Rattle.certificate.specs.Facts.{Readable}
use Rattle.network.specs.Network.{network_of}
use Rattle.network.specs.Flow.{next}
use Rattle.network.specs.Sound.{Sound, Within}
use Rattle.network.specs.Laws.{IsMet, Exceeds}
use Rattle.grid.specs.Intervals.{InInterval, interval_at}
use Rattle.grid.specs.Cells.{number_of, interval_in, lower_of, upper_of, InCell, cell_at}
use Rattle.grid.specs.Successors.{image_low, image_high, image_over, is_successor}

-- a choice of one existing interval for each of the first l links, and for every link
abbrev pub ChoiceTo : List ℕ → ℕ → (ℕ → ℕ) → Type 0
ChoiceTo s l i = (k : ℕ) → k < l → i k < intervals_of s k

abbrev pub Choice : List ℕ → (ℕ → ℕ) → Type 0
Choice s i = ChoiceTo s (links_of s) i

-- after l links the numbers so far are those below the product of the counts so far, each from exactly one choice of intervals
pub record NumbersTo (s : List ℕ) (l : ℕ) : Type 0 where
  pub below : (i : ℕ → ℕ) → ChoiceTo s l i → number_of s i l < product_of s l
  pub some : (n : ℕ) → n < product_of s l → (i : ℕ → ℕ) × ChoiceTo s l i × (number_of s i l ≡ n)
  pub one : (i j : ℕ → ℕ) → ChoiceTo s l i → ChoiceTo s l j → number_of s i l ≡ number_of s j l → (k : ℕ) → k < l → i k ≡ j k

-- this holds after each link, of every byte list: where a link so far has no interval, there is no choice and no number
abbrev pub LinkByLink : Type 0
LinkByLink = (s : List ℕ) (l : ℕ) → NumbersTo s l

-- reading the intervals back from the number of a choice gives the choice
abbrev pub ReadsBack : Type 0
ReadsBack =
    (s : List ℕ) (i : ℕ → ℕ) → Choice s i → (l : ℕ) → l < links_of s → interval_in s (number_of s i (links_of s)) l ≡ i l

-- the intervals read from a cell number are a choice, and its number is that cell: the one choice that `LinkByLink` speaks of, for all links
abbrev pub IsChoice : Type 0
IsChoice = (s : List ℕ) → Readable s → (c : ℕ) → Choice s (interval_in s c)

abbrev pub BuildsAgain : Type 0
BuildsAgain = (s : List ℕ) → Readable s → (c : ℕ) → c < cells_of s → number_of s (interval_in s c) (links_of s) ≡ c

-- every queue from 0 to cap, over any scale, lies in exactly one interval
abbrev pub OneInterval : Type 0
OneInterval =
    (s : List ℕ) → Readable s → (l D x : ℕ) → l < links_of s → 1 ≤ D → x ≤ D * cap_of s l
    → InInterval s l (interval_at s l D x) D x × ((i : ℕ) → InInterval s l i D x → i ≡ interval_at s l D x)

-- hence all queues at most cap lie in exactly one cell
abbrev pub OneCell : Type 0
OneCell =
    (s : List ℕ) → Readable s → (D : ℕ) (x : ℕ → ℕ) → 1 ≤ D → ((l : ℕ) → l < links_of s → x l ≤ D * cap_of s l)
    → InCell s (cell_at s D x) D x × ((c : ℕ) → InCell s c D x → c ≡ cell_at s D x)

-- a column of numbers n as it is worked out by hand for queues x over scale D: on each link the interval i that holds its queue; 0 at first,
-- and with each link the number so far times the link's interval count, plus its interval
pub record Column (s : List ℕ) (D : ℕ) (x i n : ℕ → ℕ) : Type 0 where
  pub holds : (l : ℕ) → l < links_of s → InInterval s l (i l) D (x l)
  pub start : n 0 ≡ 0
  pub step : (l : ℕ) → l < links_of s → n (l + 1) ≡ n l * intervals_of s l + i l

-- it ends with the queues' cell: the one cell that `OneCell` speaks of
abbrev pub ColumnEnds : Type 0
ColumnEnds = (s : List ℕ) (D : ℕ) (x i n : ℕ → ℕ) → Column s D x i n → InCell s (n (links_of s)) D x

-- queues x over scale D lie in the closed cell c; arrivals a in arrival box b
abbrev pub InClosedCell : List ℕ → ℕ → ℕ → (ℕ → ℕ) → Type 0
InClosedCell s c D x = Within (links_of s) (lower_of s c) (upper_of s c) D x

abbrev pub InBox : List ℕ → ℕ → ℕ → (ℕ → ℕ) → Type 0
InBox s b D a = Within (links_of s) (low_of s b) (high_of s b) D a

-- The laws of images and successors hold for all limits under which the network is sound (network `Sound`). In a certificate that passes
-- the tests before 12 those of each signal and of each entry are such (network `ScreenedIsSound`, `EntryIsSound`).

-- Smallest box: the image holds all exact next queues from the closed cell and the arrival box, over every scale, and each end is met
pub record ImageOf (s : List ℕ) (limit : ℕ → ℕ) (b c : ℕ) : Type 0 where
  pub holds : (D : ℕ) (x a : ℕ → ℕ) → InClosedCell s c D x → InBox s b D a → (l : ℕ) → l < links_of s
      → (D * image_low s limit b c l ≤ next (network_of s) limit D x a l)
      × (next (network_of s) limit D x a l ≤ D * image_high s limit b c l)
  pub low_met : (l : ℕ) → l < links_of s
      → IsMet (network_of s) limit (lower_of s c) (upper_of s c) (low_of s b) (high_of s b) l (image_low s limit b c l)
  pub high_met : (l : ℕ) → l < links_of s
      → IsMet (network_of s) limit (lower_of s c) (upper_of s c) (low_of s b) (high_of s b) l (image_high s limit b c l)
  -- and it says of each link whether its next queue, not cut at cap, exceeds cap for some of these queues and arrivals
  pub over : (l : ℕ) → l < links_of s
      → (image_over s limit b c l ≡ true) ↔ Exceeds (network_of s) limit (lower_of s c) (upper_of s c) (low_of s b) (high_of s b) l

abbrev pub ImageIsSmallest : Type 0
ImageIsSmallest =
    (s : List ℕ) → Readable s → (green : ℕ → Bool) (limit : ℕ → ℕ) → Sound (network_of s) green limit
    → (b c : ℕ) → b < boxes_of s → ImageOf s limit b c

-- hence every closed range of fractions p / q .. v / w that holds all next queues of link l holds its image
abbrev pub AnyBoxHoldsImage : Type 0
AnyBoxHoldsImage =
    (s : List ℕ) → Readable s → (green : ℕ → Bool) (limit : ℕ → ℕ) → Sound (network_of s) green limit
    → (b c l : ℕ) → b < boxes_of s → l < links_of s → (p q v w : ℕ)
    → ((D : ℕ) (x a : ℕ → ℕ) → 1 ≤ D → InClosedCell s c D x → InBox s b D a
    → (p * (10000 * D) ≤ next (network_of s) limit D x a l * q)
    × (next (network_of s) limit D x a l * w ≤ v * (10000 * D)))
    → (p * 10000 ≤ image_low s limit b c l * q) × (image_high s limit b c l * w ≤ v * 10000)

-- an exact point that lies in cell d, edges as stated, and in the closed image of cell c
pub record PointIn (s : List ℕ) (limit : ℕ → ℕ) (b c d : ℕ) : Type 0 where
  pub scale : ℕ
  pub point : ℕ → ℕ
  pub scale_least : 1 ≤ scale
  pub cell : InCell s d scale point
  pub low : (l : ℕ) → l < links_of s → scale * image_low s limit b c l ≤ 10000 * point l
  pub high : (l : ℕ) → l < links_of s → 10000 * point l ≤ scale * image_high s limit b c l

-- a cell is a successor exactly if some exact point lies in it and in the closed image
abbrev pub SuccessorIsPoint : Type 0
SuccessorIsPoint =
    (s : List ℕ) → Readable s → (green : ℕ → Bool) (limit : ℕ → ℕ) → Sound (network_of s) green limit
    → (b c d : ℕ) → b < boxes_of s → d < cells_of s
    → (is_successor s limit b c d ≡ true) ↔ PointIn s limit b c d

-- the step: from queues in cell c and arrivals in box b, the next queues' cell is a successor under that box
abbrev pub StepsToSuccessor : Type 0
StepsToSuccessor =
    (s : List ℕ) → Readable s → (green : ℕ → Bool) (limit : ℕ → ℕ) → Sound (network_of s) green limit
    → (b c d D : ℕ) (x a : ℕ → ℕ) → b < boxes_of s → 1 ≤ D
    → InCell s c D x → InBox s b D a → InCell s d (10000 * D) (next (network_of s) limit D x a)
    → is_successor s limit b c d ≡ true
