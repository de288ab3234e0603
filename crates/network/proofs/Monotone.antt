-- Monotone: what pushes a link's queue higher leaves it at least as high after a step. Assumes nothing.
use Prim.Native.Nat.{ℕ, ◌+◌, ◌*◌, ◌-◌, ◌≤◌, ◌<◌}
use mathlib.Core.Bool.{Bool, true, false}
use mathlib.Core.Path.{◌≡◌, refl, sym, ap, ◌∙◌}
use native.Mathlib.Nat.{le_trans, le_refl, le_of_eq, mul-le-mul_left, mul-add, mul-sub, mul_left_comm}
use native.Mathlib.Omega.{arith}
use borrow.Author.Tests.{eqb-true, eqb-false, leb-true, leb-false, eq-eqb, ne_eqb}
use lib.Dec.{eqb, leb}
use Rattle.certificate.specs.Loops.{pick}
use Rattle.network.specs.Network.{Network}
use Rattle.network.specs.Flow.{supply, sent, passed_in, gross, next}
use Rattle.network.specs.Sound.{Joined, Sound, Pushes}
use Rattle.network.specs.Laws.{Monotone}
use Rattle.network.proofs.Sending.{sent_queue, sent_limit, sent_supply, sent_most}
use Rattle.network.proofs.Passing.{into_slack, passed_slack}

-- a network in which l is a link, and queues of which y pushes l at least as high as x
module _ (N : Network) (green : ℕ → Bool) (limit : ℕ → ℕ) (S : Sound N green limit) (D l : ℕ) (hl : l < N.links) where
  -- condition 11 holds of limits, as they are at most flow
  room_limit : (t : ℕ) → t < N.turns → 100 * limit (N.from t) ≤ N.pull t * (N.cap (N.to t) - limit (N.to t))
  room_limit t lt =
      let J = S.joins in
      let here : limit (N.to t) ≤ N.flow (N.to t) = S.most (N.to t) (J.to_link t lt) in
      let more : N.pull t * (N.cap (N.to t) - N.flow (N.to t)) ≤ N.pull t * (N.cap (N.to t) - limit (N.to t)) = mul-le-mul_left (N.pull t) (omega arith) in
      omega (arith, S.most (N.from t) (J.from_link t lt), S.room t lt)

  module _ (x y : ℕ → ℕ) (P : Pushes N l x y) where
    own : x l ≤ y l
    own = P.other l hl (λ _. refl)

    -- a link that l turns into has another tail than l, so its supply falls
    down : (t : ℕ) → t < N.turns → N.from t ≡ l → supply N limit D y t ≤ supply N limit D x t
    down t lt e =
        let J = S.joins in
        let up : x (N.to t) ≤ y (N.to t) = P.other (N.to t) (J.to_link t lt) (λ same. absurd (J.no_loop l hl (ap N.head (sym e) ∙ J.joined t lt ∙ same))) in
        mul-le-mul_left _ (omega arith)

    -- of its longer queue l sends at most what it sent and the difference
    sent_own : sent N limit D y l ≤ sent N limit D x l + 100 * (y l - x l)
    sent_own =
        let less : sent N limit D y l - 100 * (y l - x l) ≤ sent N limit D x l =
        sent_most N limit D x l (sent N limit D y l - 100 * (y l - x l))
        (omega (arith, sent_queue N limit D y l, own))
        (omega (arith, sent_limit N limit D y l))
        (λ t lt e. omega (arith, down t lt e, sent_supply N limit D y t l lt e)) in
        omega arith

    -- a link that reached its limit sends no more of a longer queue
    sent_full : D * limit l ≤ x l → sent N limit D y l ≤ sent N limit D x l
    sent_full full =
        sent_most N limit D x l (sent N limit D y l)
        (omega (arith, sent_limit N limit D y l))
        (sent_limit N limit D y l)
        (λ t lt e. le_trans (sent_supply N limit D y t l lt e) (down t lt e))

    -- the from link of a turn into l has another tail than l
    from_up : (t : ℕ) → t < N.turns → N.to t ≡ l → x (N.from t) ≤ y (N.from t)
    from_up t lt e =
        let J = S.joins in
        P.other (N.from t) (J.from_link t lt)
        (λ same. absurd (J.no_loop (N.from t) (J.from_link t lt) (J.joined t lt ∙ ap N.tail e ∙ sym same)))

    -- of the turns from one link that turns into l by t, t alone leads into l, and the others lead to links beside l
    by_turn : (t : ℕ) → t < N.turns → N.to t ≡ l → (m : ℕ) → sent N limit D x (N.from t) ≤ supply N limit D y t + m
        → (s : ℕ) → s < N.turns → N.from s ≡ N.from t → sent N limit D x (N.from t) ≤ supply N limit D y s + m
    by_turn t lt e m here s ls f = go (eqb (N.to s) l) refl
      where
        J : Joined N
        J = S.joins

        go : (q : Bool) → eqb (N.to s) l ≡ q → sent N limit D x (N.from t) ≤ supply N limit D y s + m
        go true q = let one : s ≡ t = J.one_turn s t ls lt f (eqb-true _ _ q ∙ sym e) in rw one here
        go false q =
            let meets : N.tail (N.to s) ≡ N.tail l = sym (J.joined s ls) ∙ ap N.head f ∙ J.joined t lt ∙ ap N.tail e in
            let low : y (N.to s) ≤ x (N.to s) = P.beside (N.to s) (J.to_link s ls) meets (eqb-false _ _ q) in
            let rises : supply N limit D x s ≤ supply N limit D y s = mul-le-mul_left _ (omega arith) in
            omega (arith, sent_supply N limit D x s (N.from t) ls f)

    -- what a from link sends falls by at most m, where the supply of its turn into l keeps that much
    into_by : (t : ℕ) → t < N.turns → N.to t ≡ l → (m : ℕ) → sent N limit D x (N.from t) ≤ supply N limit D y t + m
        → sent N limit D x (N.from t) ≤ sent N limit D y (N.from t) + m
    into_by t lt e m here =
        let less : sent N limit D x (N.from t) - m ≤ sent N limit D y (N.from t) =
        sent_most N limit D y (N.from t) (sent N limit D x (N.from t) - m)
        (omega (arith, sent_queue N limit D x (N.from t), from_up t lt e))
        (omega (arith, sent_limit N limit D x (N.from t)))
        (λ s ls f. omega (arith, by_turn t lt e m here s ls f)) in
        omega arith

    -- it falls by at most the turn's pull for each vehicle more on l
    into : (t : ℕ) → t < N.turns → N.to t ≡ l → sent N limit D x (N.from t) ≤ sent N limit D y (N.from t) + N.pull t * (y l - x l)
    into t lt e = into_by t lt e (N.pull t * (y l - x l)) (le_trans (sent_supply N limit D x t (N.from t) lt refl) (falls (N.to t) e))
      where
        falls : (k : ℕ) → k ≡ l → N.pull t * (D * N.cap k - x k) ≤ N.pull t * (D * N.cap k - y k) + N.pull t * (y l - x l)
        falls k h = rw h (rw (← mul-add) (mul-le-mul_left (N.pull t) (omega arith)))

    -- it does not fall while l is below its limit: then l has room for all that comes
    into_free : y l ≤ D * limit l → (t : ℕ) → t < N.turns → N.to t ≡ l → sent N limit D x (N.from t) ≤ sent N limit D y (N.from t)
    into_free free t lt e = omega (arith, into_by t lt e 0 (omega (arith, sent_limit N limit D x (N.from t), roomy (N.to t) e (room_limit t lt))))
      where
        roomy : (k : ℕ) → k ≡ l → 100 * limit (N.from t) ≤ N.pull t * (N.cap k - limit k) → 100 * (D * limit (N.from t)) ≤ N.pull t * (D * N.cap k - y k)
        roomy k h r =
            let full : y k ≤ D * limit k = rw h free in
            let scaled : D * (100 * limit (N.from t)) ≤ D * (N.pull t * (N.cap k - limit k)) = mul-le-mul_left D r in
            let left : N.pull t * (D * (N.cap k - limit k)) ≤ N.pull t * (D * N.cap k - y k) = mul-le-mul_left (N.pull t) (rw mul-sub (omega arith)) in
            omega (arith, mul_left_comm D 100 (limit (N.from t)), mul_left_comm D (N.pull t) (N.cap k - limit k))

    -- what is passed into l falls by at most the difference of its queues
    passed_full : passed_in N limit D x l ≤ passed_in N limit D y l + 10000 * (y l - x l)
    unfolding passed_in
    passed_full = passed_slack N green limit S D l hl x (λ t. sent N limit D y (N.from t)) (y l - x l) into

    -- and by nothing while l is below its limit
    passed_free : y l ≤ D * limit l → passed_in N limit D x l ≤ passed_in N limit D y l
    unfolding passed_in
    passed_free free =
        omega (
          arith,
          into_slack N l (λ t. N.share t * sent N limit D x (N.from t)) (λ t. N.share t * sent N limit D y (N.from t)) (λ t. 0) 0
              (λ t lt e. omega (arith, mul-le-mul_left (N.share t) (into_free free t lt e))),
        )

    free_case : y l ≤ D * limit l → (a b : ℕ → ℕ) → a l ≤ b l → gross N limit D x a l ≤ gross N limit D y b l
    unfolding gross
    free_case free a b ab = omega (arith, own, sent_own, sent_queue N limit D x l, sent_queue N limit D y l, passed_free free)

    full_case : D * limit l ≤ x l → (a b : ℕ → ℕ) → a l ≤ b l → gross N limit D x a l ≤ gross N limit D y b l
    unfolding gross
    full_case full a b ab = omega (arith, own, sent_full full, sent_queue N limit D x l, sent_queue N limit D y l, passed_full)

-- the queues x with w on link l
at : ℕ → (ℕ → ℕ) → ℕ → ℕ → ℕ
at l x w k = pick (eqb k l) w (x k)

at_same : (l : ℕ) (x : ℕ → ℕ) (w k : ℕ) → k ≡ l → at l x w k ≡ w
unfolding at
at_same l x w k e = rw (eq-eqb k l e)

at_other : (l : ℕ) (x : ℕ → ℕ) (w k : ℕ) → (k ≡ l → ⊥) → at l x w k ≡ x k
unfolding at
at_other l x w k e = rw (ne_eqb k l e)

-- between x and y stand the queues x with a number between x l and y l on link l
below : (N : Network) (l : ℕ) (x : ℕ → ℕ) (w : ℕ) → x l ≤ w → Pushes N l x (at l x w)
below N l x w h =
    record {
      beside = λ k lk e ne. le_of_eq (at_other l x w k ne);
      other = λ k lk e. split k (eqb k l) refl;
    }
  where
    split : (k : ℕ) (q : Bool) → eqb k l ≡ q → x k ≤ at l x w k
    split k true q = let e : k ≡ l = eqb-true _ _ q in omega (arith, at_same l x w k e, ap x e)
    split k false q = omega (arith, at_other l x w k (eqb-false _ _ q))

above : (N : Network) (l : ℕ) (x y : ℕ → ℕ) (w : ℕ) → Pushes N l x y → w ≤ y l → Pushes N l (at l x w) y
above N l x y w P h =
    record {
      beside = λ k lk e ne. omega (arith, at_other l x w k ne, P.beside k lk e ne);
      other = λ k lk e. split k lk e (eqb k l) refl;
    }
  where
    split : (k : ℕ) → k < N.links → (N.tail k ≡ N.tail l → k ≡ l) → (q : Bool) → eqb k l ≡ q → at l x w k ≤ y k
    split k lk e true q = let f : k ≡ l = eqb-true _ _ q in omega (arith, at_same l x w k f, ap y f)
    split k lk e false q = omega (arith, at_other l x w k (eqb-false _ _ q), P.other k lk e)

-- both queues of l below its limit, or both above it, or by way of the limit
gross_monotone : (N : Network) (green : ℕ → Bool) (limit : ℕ → ℕ) → Sound N green limit → (D l : ℕ) → l < N.links
    → (x y a b : ℕ → ℕ) → Pushes N l x y → a l ≤ b l → gross N limit D x a l ≤ gross N limit D y b l
gross_monotone N green limit S D l hl x y a b P ab = go (leb (y l) w) refl (leb w (x l)) refl
  where
    w : ℕ
    w = D * limit l

    here : at l x w l ≡ w
    here = at_same l x w l refl

    go : (q : Bool) → leb (y l) w ≡ q → (r : Bool) → leb w (x l) ≡ r → gross N limit D x a l ≤ gross N limit D y b l
    go true e r f = free_case N green limit S D l hl x y P (leb-true _ _ e) a b ab
    go false e true f = full_case N green limit S D l hl x y P (leb-true _ _ f) a b ab
    go false e false f =
        let hx : x l < w = leb-false _ _ f in
        let hy : w < y l = leb-false _ _ e in
        le_trans
        (free_case N green limit S D l hl x (at l x w) (below N l x w (omega arith)) (le_of_eq here) a b ab)
        (full_case N green limit S D l hl (at l x w) y (above N l x y w P (omega arith)) (le_of_eq (sym here)) b b (le_refl (b l)))

pub monotone : Monotone
unfolding next
monotone N green limit S D l hl x y a b P ab =
    let before : gross N limit D x a l ≤ gross N limit D y b l = gross_monotone N green limit S D l hl x y a b P ab in
    (before, omega arith)
