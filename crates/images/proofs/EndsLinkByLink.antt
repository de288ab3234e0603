-- The ends of one side, link by link: the arrays by which the code goes, and what links send in the definitions, agree. Assumes nothing.
use Prim.Native.Nat.{ℕ, ◌+◌, ◌*◌, ◌≤◌, ◌<◌, min}
use mathlib.Core.List.{List}
use mathlib.Core.Bool.{Bool, true, false}
use mathlib.Core.Path.{◌≡◌, refl, sym, ◌∙◌}
use native.Mathlib.Nat.{one-mul, mul-zero}
use native.Mathlib.Omega.{arith}
use borrow.Author.Tests.{eqb-true, eqb-false, leb-true, leb-false, le-leb, lt-leb}
use lib.Dec.{leb, eqb}
use Rattle.certificate.specs.Loops.{pick, sum_to}
use Rattle.certificate.specs.Layout.{links_of, turns_of, from_of, to_of, share_of}
use Rattle.certificate.specs.Facts.{Readable}
use Rattle.network.specs.Network.{Network, network_of}
use Rattle.network.specs.Flow.{least_to, supply, sent, gross}
use Rattle.network.specs.Image.{low_corner, high_corner}
use Rattle.supply.specs.declared.QueueBox.{QueueBox}
use Rattle.supply.specs.declared.SideSupplies.{SideSupplies}
use Rattle.supply.specs.Supply.{at, FirstTurns, supply_at, Supplies, sent_by}
use Rattle.images.specs.declared.ends.Ends.{Ends}
use Rattle.images.specs.Ends.{PassedOn, pushed, SideSoFar, EndsSoFar, EndsBefore}
use Rattle.screening.specs.NetworkParts.{into}
use Rattle.supply.proofs.LeastNumbers.{least_same}
use Rattle.supply.proofs.TwoLeast.{sent_least}
use Rattle.network.proofs.Sending.{least_base, sent_queue, sent_none}
use Rattle.screening.proofs.Summing.{sum_flat, sum_alike}
use Rattle.images.proofs.Outward.{begin_first, begin_last, begin_ascends, from_here, least_between}
use Rattle.network.proofs.Screening.{joins_of}
use Rattle.images.proofs.Corners.{corner_gross}

-- at scale 1 a supply is that of whole vehicles
supply_is : (s : List ℕ) (limit y : ℕ → ℕ) (u : ℕ) → supply_at s y u ≡ supply (network_of s) limit 1 y u
supply_is s limit y u = rw one-mul

-- what counts before link l + 1: what counts before l, and l's
up_to : (l k v : ℕ) → pick (leb (l + 1) k) 0 v ≡ pick (leb l k) 0 v + pick (eqb k l) v 0
up_to l k v = go (eqb k l) refl
  where
    go : (q : Bool) → eqb k l ≡ q → pick (leb (l + 1) k) 0 v ≡ pick (leb l k) 0 v + pick q v 0
    go true q = let here : k ≡ l = eqb-true _ _ q in rw (lt-leb (l + 1) k (omega arith), le-leb l k (omega arith)) (omega arith)
    go false q = let apart : k ≡ l → ⊥ = eqb-false _ _ q in by (leb l k) refl apart
      where
        by : (r : Bool) → leb l k ≡ r → (k ≡ l → ⊥) → pick (leb (l + 1) k) 0 v ≡ pick r 0 v + 0
        by true r apart = let h : l ≤ k = leb-true _ _ r in rw (le-leb (l + 1) k (omega arith)) (omega arith)
        by false r apart = let h : k < l = leb-false _ _ r in rw (lt-leb (l + 1) k (omega arith)) (omega arith)

-- own are the queues of the side, other those of the other side
module _ {s first : List ℕ} (R : Readable s) (F : FirstTurns s first) (limit own other : ℕ → ℕ) where
  abbrev N : Network
  N = network_of s

  -- what turn t carries
  abbrev carried : ℕ → ℕ
  carried t = share_of s t * pushed N limit own other t

  -- before any link sends
  pub side_none : (side : List ℕ) → ((k : ℕ) → k < links_of s → (at side k ≡ 10000 * own k) × (own k ≤ 10000)) → SideSoFar s limit own other first 0 side
  unfolding sum_to
  side_none side h =
      record {
        is = λ k lk. rw (begin_first s first R F, le-leb 0 k (omega arith)) (omega (arith, h k lk));
        most = λ k lk. omega (arith, h k lk);
      }

  module _ (l : ℕ) (hl : l < links_of s) where
    -- where the turns of link l begin and end
    abbrev from : ℕ
    from = at first l

    abbrev end : ℕ
    end = at first (l + 1)

    one_of : l < 8
    one_of = omega (arith, R.header)

    -- a red link sends nothing
    pub side_red : (side : List ℕ) → limit l ≡ 0 → SideSoFar s limit own other first l side → SideSoFar s limit own other first (l + 1) side
    side_red side red S =
        record {
          is = λ k lk. rw (up_to l k, flat k) (omega (arith, S.is k lk, own_none k (eqb k l) refl));
          most = λ k lk. omega (arith, S.most k lk, begin_ascends s first R F l one_of);
        }
      where
        none : sent N limit 1 own l ≡ 0
        none = sent_none N limit 1 own l red

        own_none : (k : ℕ) (q : Bool) → eqb k l ≡ q → pick q (100 * sent N limit 1 own k) 0 ≡ 0
        own_none k true q = let here : k ≡ l = eqb-true _ _ q in rw (here, none) refl
        own_none k false q = refl

        pushed_none : (t : ℕ) → from ≤ t → t < end → carried t ≡ 0
        pushed_none t le lt =
            let here : from_of s t ≡ l = from_here s first R F l t one_of le lt in
            let zero-limit : 1 * limit (from_of s t) ≡ 0 = rw (here, red) refl in
            let zero-pushed : pushed N limit own other t ≡ 0 = omega (arith, least_base (turns_of s) (λ u. eqb (from_of s u) (from_of s t)) (λ u. pick (eqb u t) (supply N limit 1 own u) (supply N limit 1 other u)) (min (100 * own (from_of s t)) (100 * (1 * limit (from_of s t))))) in
            rw (zero-pushed, mul-zero) refl

        into_none : (q : Bool) (v : ℕ) → v ≡ 0 → pick q v 0 ≡ 0
        into_none true v e = e
        into_none false v e = refl

        flat : (k : ℕ) → sum_to end (into (to_of s) carried k) ≡ sum_to from (into (to_of s) carried k)
        flat k = sum_flat from end _ (begin_ascends s first R F l one_of) (λ t le lt. into_none (eqb (to_of s t) k) _ (pushed_none t le lt))

    -- a link that sends d and whose turns carry what they carry in the definitions
    side_on : (f : ℕ → ℕ) (d : ℕ) (before after : List ℕ) → SideSoFar s limit own other first l before → PassedOn s f from end l (100 * d) before after
        → d ≡ sent N limit 1 own l → ((t : ℕ) → from ≤ t → t < end → f t ≡ carried t) → SideSoFar s limit own other first (l + 1) after
    side_on f d before after S P ed ef =
        record {
          is = λ k lk. rw (up_to l k) (omega (arith, S.is k lk, P.adds k lk, taken k (eqb k l) refl, alike k));
          most = P.most;
        }
      where
        taken : (k : ℕ) (q : Bool) → eqb k l ≡ q → pick q (100 * sent N limit 1 own k) 0 ≡ pick q (100 * d) 0
        taken k true q = let here : k ≡ l = eqb-true _ _ q in rw (here, ed) refl
        taken k false q = refl

        alike : (k : ℕ) → sum_to end (into (to_of s) f k) + sum_to from (into (to_of s) carried k) ≡ sum_to end (into (to_of s) carried k) + sum_to from (into (to_of s) f k)
        alike k = sum_alike from end _ _ (begin_ascends s first R F l one_of) (λ t le lt. rw (ef t le lt) refl)

    -- near and far have the supplies of its turns at the queues of the two sides, and most is the most that it may send
    module _ {near far : SideSupplies} {most : ℕ} (own_is : Supplies s own from end near) (other-is : Supplies s other from end far) (most-is : most ≡ min (100 * own l) (100 * limit l)) where
      -- it sends what it sends where the queues are own
      sent_is : least_to end (leb from) (supply_at s own) most ≡ sent N limit 1 own l
      unfolding sent
      sent_is =
          rw (most-is, one-mul)
          (least_same end _ _ _ _ _ (λ u lt. refl) (λ u lt p. supply_is s limit own u)
          ∙ sym (least_between s first R F l one_of _ _))

      -- and its turn t is pushed what the definitions say
      pushed_is : (t : ℕ) → from ≤ t → t < end → sent_by (at near.of_turn) (at far.of_turn) from end most t ≡ pushed N limit own other t
      pushed_is t le lt =
          rw (from_here s first R F l t one_of le lt, most-is, one-mul)
          (least_same end (leb from) (leb from) (λ u. pick (eqb u t) (at near.of_turn u) (at far.of_turn u)) (λ u. pick (eqb u t) (supply N limit 1 own u) (supply N limit 1 other u)) _ (λ u lu. refl)
          (λ u lu p. rw (own_is.room u (leb-true _ _ p) lu, other-is.room u (leb-true _ _ p) lu, supply_is s limit own u, supply_is s limit other u) refl)
          ∙ sym (least_between s first R F l one_of _ _))

    -- so a green link does, by the least of its supplies and its flow
    pub side_green : {near far : SideSupplies} {before after : List ℕ} {flow : ℕ} → SideSoFar s limit own other first l before
        → Supplies s own from end near → Supplies s other from end far → own l ≤ 10000 → flow ≡ 100 * limit l
        → PassedOn s (λ t. share_of s t * sent_by (at near.of_turn) (at far.of_turn) from end (min (100 * own l) flow) t) from end l (100 * min near.two.least (min (100 * own l) flow)) before after
        → SideSoFar s limit own other first (l + 1) after
    side_green {near} {far} {before} {after} {flow} S own_is other-is small flow-is P =
        let most-is : min (100 * own l) flow ≡ min (100 * own l) (100 * limit l) = rw flow-is refl in
        side_on _ _ before after S P
        (sent_least (supply_at s own) from end near.two.least _ own_is.two_least.least_is (omega arith) ∙ sent_is own_is other-is most-is)
        (λ t le lt. rw (pushed_is own_is other-is most-is t le lt) refl)

    -- its own end is still whole when it sends
    pub side_whole : {side : List ℕ} → SideSoFar s limit own other first l side → 10000 * own l ≤ at side l
    side_whole S = let all = rw (le-leb l l (omega arith)) at (S.is l hl) in omega arith

  -- after all links, the next queue of each link at its corner, before arrivals
  side_gross : (side : List ℕ) → SideSoFar s limit own other first (links_of s) side → (k : ℕ) → k < links_of s → at side k ≡ gross N limit 1 (low_corner N k own other) (λ _. 0) k
  side_gross side S k h =
      let all = rw (lt-leb (links_of s) k h, begin_last s first R F) at (S.is k h) in
      omega (arith, all, sent_queue N limit 1 own k, corner_gross N (joins_of s R) limit own other k h)

  pub side_most : (side : List ℕ) → SideSoFar s limit own other first (links_of s) side → (k : ℕ) → k < links_of s → at side k ≤ 10000000000
  side_most side S k h = omega (arith, S.most k h, begin_last s first R F, R.header)

-- the low side and the high side are the ends: the high corner is the low corner with the sides exchanged
pub both_sides : {s first : List ℕ} {limit : ℕ → ℕ} {queues : QueueBox} {ends : Ends} → Readable s → FirstTurns s first
    → EndsSoFar s limit queues first (links_of s) ends → EndsBefore s limit queues ends
unfolding low_corner high_corner
both_sides R F E =
    record {
      low_is = side_gross R F _ _ _ _ E.low;
      high_is = side_gross R F _ _ _ _ E.high;
      low_most = side_most R F _ _ _ _ E.low;
      high_most = side_most R F _ _ _ _ E.high;
    }
