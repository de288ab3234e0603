-- At the corner of a link, the link itself sends what it sends where all queues are its own side's, and a turn into it is
-- pushed what its from link sends with the other side's queues on the other links that it turns into. Assumes nothing.
use Prim.Native.Nat.{ℕ, ◌+◌, ◌*◌, ◌-◌, ◌<◌}
use mathlib.Core.Bool.{Bool, true, false}
use mathlib.Core.Path.{◌≡◌, refl, sym, ap, ◌∙◌}
use native.Mathlib.Omega.{arith}
use borrow.Author.Tests.{eqb-true, eqb-false, eq-eqb, ne_eqb}
use lib.Dec.{eqb}
use Rattle.certificate.specs.Loops.{pick, sum_to}
use Rattle.certificate.proofs.Loops.{sum_same}
use Rattle.network.specs.Network.{Network}
use Rattle.network.specs.Flow.{supply, sent, passed_in, gross}
use Rattle.network.specs.Image.{beside, low_corner}
use Rattle.network.specs.Sound.{Joined}
use Rattle.screening.specs.NetworkParts.{into}
use Rattle.images.specs.Ends.{pushed}
use Rattle.supply.proofs.LeastNumbers.{least_same}

-- a link of another tail is not beside l, and neither is l
other_tail : (N : Network) (l k : ℕ) → (N.tail k ≡ N.tail l → ⊥) → beside N l k ≡ false
unfolding beside
other_tail N l k h = rw (ne_eqb (N.tail k) (N.tail l) h)

itself : (N : Network) (l : ℕ) → beside N l l ≡ false
unfolding beside
itself N l = rw (eq-eqb (N.tail l) (N.tail l) refl, eq-eqb l l refl)

same_tail : (N : Network) (l k : ℕ) → N.tail k ≡ N.tail l → (k ≡ l → ⊥) → beside N l k ≡ true
unfolding beside
same_tail N l k e h = rw (eq-eqb (N.tail k) (N.tail l) e, ne_eqb k l h)

-- own are the queues of the corner's own side, other those of the other
module _ (N : Network) (J : Joined N) (limit own other : ℕ → ℕ) where
  at_own : (l k : ℕ) → beside N l k ≡ false → low_corner N l own other k ≡ own k
  unfolding low_corner
  at_own l k e = rw e

  at_other : (l k : ℕ) → beside N l k ≡ true → low_corner N l own other k ≡ other k
  unfolding low_corner
  at_other l k e = rw e

  -- the links that l turns into have another tail
  onward : (l t : ℕ) → l < N.links → t < N.turns → N.from t ≡ l → low_corner N l own other (N.to t) ≡ own (N.to t)
  onward l t hl lt e = at_own l (N.to t) (other_tail N l (N.to t) (λ same. J.no_loop l hl (ap N.head (sym e) ∙ J.joined t lt ∙ same)))

  pub corner_sent : (l : ℕ) → l < N.links → sent N limit 1 (low_corner N l own other) l ≡ sent N limit 1 own l
  unfolding sent
  corner_sent l hl =
      rw (at_own l l (itself N l))
      (least_same N.turns _ _ _ _ _ (λ t lt. refl) (λ t lt p. rw (onward l t hl lt (eqb-true _ _ p))))

  -- the from link of a turn into l has another tail than l
  backward : (l t : ℕ) → t < N.turns → N.to t ≡ l → low_corner N l own other (N.from t) ≡ own (N.from t)
  backward l t lt e =
      at_own l (N.from t) (other_tail N l (N.from t) (λ same. J.no_loop (N.from t) (J.from_link t lt) (J.joined t lt ∙ ap N.tail e ∙ sym same)))

  -- the other links that it turns into stand beside l
  sideways : (l t u : ℕ) → t < N.turns → u < N.turns → N.to t ≡ l → N.from u ≡ N.from t
      → supply N limit 1 (low_corner N l own other) u ≡ pick (eqb u t) (supply N limit 1 own u) (supply N limit 1 other u)
  sideways l t u lt lu e f = go (eqb u t) refl
    where
      go : (q : Bool) → eqb u t ≡ q → supply N limit 1 (low_corner N l own other) u ≡ pick q (supply N limit 1 own u) (supply N limit 1 other u)
      go true q =
          let here : N.to u ≡ l = ap N.to (eqb-true u t q) ∙ e in
          rw (here, at_own l l (itself N l))
      go false q =
          let meets : N.tail (N.to u) ≡ N.tail l = sym (J.joined u lu) ∙ ap N.head f ∙ J.joined t lt ∙ ap N.tail e in
          let apart : N.to u ≡ l → ⊥ = λ h. eqb-false u t q (J.one_turn u t lu lt f (h ∙ sym e)) in
          rw (at_other l (N.to u) (same_tail N l (N.to u) meets apart))

  corner_pushed : (l t : ℕ) → t < N.turns → N.to t ≡ l → sent N limit 1 (low_corner N l own other) (N.from t) ≡ pushed N limit own other t
  unfolding sent
  corner_pushed l t lt e =
      rw (backward l t lt e)
      (least_same N.turns _ _ _ _ _ (λ u lu. refl) (λ u lu p. sideways l t u lt lu e (eqb-true _ _ p)))

  corner_passed : (l : ℕ) → passed_in N limit 1 (low_corner N l own other) l ≡ sum_to N.turns (into N.to (λ t. N.share t * pushed N limit own other t) l)
  unfolding passed_in
  corner_passed l = sum_same N.turns _ _ (λ t lt. go t lt (eqb (N.to t) l) refl)
    where
      go : (t : ℕ) → t < N.turns → (q : Bool) → eqb (N.to t) l ≡ q
          → pick q (N.share t * sent N limit 1 (low_corner N l own other) (N.from t)) 0 ≡ pick q (N.share t * pushed N limit own other t) 0
      go t lt true q = rw (corner_pushed l t lt (eqb-true _ _ q))
      go t lt false q = refl

  -- so the next queue before arrivals is what stays, and a sum over the turns that does not look at corners
  pub corner_gross : (l : ℕ) → l < N.links
      → gross N limit 1 (low_corner N l own other) (λ _. 0) l
      ≡ 10000 * own l - 100 * sent N limit 1 own l + sum_to N.turns (into N.to (λ t. N.share t * pushed N limit own other t) l)
  unfolding gross
  corner_gross l hl = omega (arith, at_own l l (itself N l), corner_sent l hl, corner_passed l)
