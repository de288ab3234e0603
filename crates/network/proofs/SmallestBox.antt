-- The image is the smallest closed box that holds every next queue, and says which of them exceed cap where they are not cut. Assumes nothing.
use Prim.Native.Nat.{ℕ, ◌*◌, ◌≤◌, ◌<◌}
use mathlib.Core.Bool.{Bool, true, false, not, ◌&&◌}
use mathlib.Core.Path.{◌≡◌, refl, sym}
use native.Mathlib.Nat.{le_refl, mul-one, mul_left_comm, lt_of_mul-lt-mul_left}
use native.Mathlib.Omega.{arith}
use borrow.Author.Tests.{ltb-true, lt-ltb, eqb-true, eq-eqb, ne_eqb}
use lib.Dec.{eqb, ltb}
use Rattle.certificate.specs.Loops.{pick}
use Rattle.network.specs.Network.{Network}
use Rattle.network.specs.Flow.{gross, next}
use Rattle.network.specs.Image.{beside, low_corner, high_corner, low_end, high_end, exceeds_cap}
use Rattle.network.specs.Sound.{Sound, Pushes}
use Rattle.network.specs.Laws.{Encloses, EndsMet, Smallest, Exceeds, OverflowIsReal}
use Rattle.network.proofs.Monotone.{monotone}
use Rattle.network.proofs.Scale.{scale_free}

-- y pushes l at least as high as x: at most x on the links that stand beside l, at least x on the others
pushes_by : (N : Network) (l : ℕ) (x y : ℕ → ℕ) → ((k : ℕ) → k < N.links → beside N l k ≡ true → y k ≤ x k)
    → ((k : ℕ) → k < N.links → beside N l k ≡ false → x k ≤ y k) → Pushes N l x y
unfolding beside
pushes_by N l x y low high =
    record {
      beside = λ k lk same apart. low k lk (rw (eq-eqb (N.tail k) (N.tail l) same, ne_eqb k l apart));
      other = λ k lk own. high k lk (go k own (eqb (N.tail k) (N.tail l)) refl);
    }
  where
    go : (k : ℕ) → (N.tail k ≡ N.tail l → k ≡ l) → (q : Bool) → eqb (N.tail k) (N.tail l) ≡ q → (q && not (eqb k l)) ≡ false
    go k own true e = rw (eq-eqb k l (own (eqb-true _ _ e)))
    go k own false e = refl

-- a step in whole vehicles, seen over scale D
whole : (N : Network) (limit : ℕ → ℕ) (D : ℕ) (x a : ℕ → ℕ) (l : ℕ) → D * next N limit 1 x a l ≡ next N limit D (λ j. D * x j) (λ j. D * a j) l
whole N limit D x a l = sym (rw mul-one at (scale_free N limit D 1 x a l).1)

-- the low corner pushes l no higher than any queues of the box do, and these no higher than the high corner
pub encloses : Encloses
unfolding low_corner high_corner
encloses N green limit S lower upper low high D x a wx wa l hl =
    (rw (whole N limit D) (monotone N green limit S D l hl _ _ _ _ below (wa l hl).0).1, rw (whole N limit D) (monotone N green limit S D l hl _ _ _ _ above (wa l hl).1).1)
  where
    below : Pushes N l (λ k. D * low_corner N l lower upper k) x
    below = pushes_by N l _ x (λ k lk e. rw e (wx k lk).1) (λ k lk e. rw e (wx k lk).0)

    above : Pushes N l x (λ k. D * high_corner N l lower upper k)
    above = pushes_by N l x _ (λ k lk e. rw e (wx k lk).0) (λ k lk e. rw e (wx k lk).1)

-- of two numbers between b and u either one is
pick_within : (b u m k : ℕ) → (b ≤ m) × (m ≤ u) → (b ≤ k) × (k ≤ u) → (q : Bool) → (1 * b ≤ pick q m k) × (pick q m k ≤ 1 * u)
pick_within b u m k hm hk true = omega arith
pick_within b u m k hm hk false = omega arith

-- the corners lie in the box
pub ends_met : EndsMet
unfolding low_corner high_corner
ends_met N limit lower upper low high hx ha l = (
  (low_corner N l lower upper, low, (λ k lk. pick_within _ _ (upper k) (lower k) (omega (arith, hx k lk)) (omega (arith, hx k lk)) (beside N l k)), (λ k lk. omega (arith, ha k lk)), refl),
  (high_corner N l lower upper, high, (λ k lk. pick_within _ _ (lower k) (upper k) (omega (arith, hx k lk)) (omega (arith, hx k lk)) (beside N l k)), (λ k lk. omega (arith, ha k lk)), refl),
)

pub smallest : Smallest
smallest N limit lower upper low high hx ha l p q =
    let met = ends_met N limit lower upper low high hx ha l in (
      (λ h. rw met.0.4 at (h 1 met.0.0 met.0.1 (le_refl 1) met.0.2 met.0.3)),
      (λ h. rw met.1.4 at (h 1 met.1.0 met.1.1 (le_refl 1) met.1.2 met.1.3)),
    )

-- the image is not empty
pub ends_ordered : (N : Network) (green : ℕ → Bool) (limit : ℕ → ℕ) → Sound N green limit → (lower upper low high : ℕ → ℕ)
    → ((k : ℕ) → k < N.links → lower k ≤ upper k) → ((k : ℕ) → k < N.links → low k ≤ high k)
    → (l : ℕ) → l < N.links → low_end N limit lower upper low l ≤ high_end N limit lower upper high l
ends_ordered N green limit S lower upper low high hx ha l hl =
    let (x, a, wx, wa, met) = (ends_met N limit lower upper low high hx ha l).0 in
    omega (arith, met, (encloses N green limit S lower upper low high 1 x a wx wa l hl).1)

-- the same of what is not cut at cap
whole_gross : (N : Network) (limit : ℕ → ℕ) (D : ℕ) (x a : ℕ → ℕ) (l : ℕ) → D * gross N limit 1 x a l ≡ gross N limit D (λ j. D * x j) (λ j. D * a j) l
whole_gross N limit D x a l = sym (rw mul-one at (scale_free N limit D 1 x a l).0)

pub overflow_is_real : OverflowIsReal
unfolding exceeds_cap high_corner
overflow_is_real N green limit S lower upper low high hx ha l hl = (there, back)
  where
    there : ltb (10000 * N.cap l) (gross N limit 1 (high_corner N l lower upper) high l) ≡ true → Exceeds N limit lower upper low high l
    there e =
        record {
          scale = 1;
          queues = high_corner N l lower upper;
          arrivals = high;
          scale_least = le_refl 1;
          inside = λ k lk. pick_within _ _ (lower k) (upper k) (omega (arith, hx k lk)) (omega (arith, hx k lk)) (beside N l k);
          arriving = λ k lk. omega (arith, ha k lk);
          above = let h = ltb-true (10000 * N.cap l) (gross N limit 1 (high_corner N l lower upper) high l) e in omega arith;
        }

    back : Exceeds N limit lower upper low high l → ltb (10000 * N.cap l) (gross N limit 1 (high_corner N l lower upper) high l) ≡ true
    back E =
        let D = E.scale in
        let above : Pushes N l E.queues (λ k. D * high_corner N l lower upper k) =
        pushes_by N l E.queues (λ k. D * high_corner N l lower upper k) (λ k lk e. rw e (E.inside k lk).0) (λ k lk e. rw e (E.inside k lk).1) in
        let most : gross N limit D E.queues E.arrivals l ≤ D * gross N limit 1 (high_corner N l lower upper) high l =
        rw (whole_gross N limit D) (monotone N green limit S D l hl E.queues (λ k. D * high_corner N l lower upper k) E.arrivals (λ k. D * high k) above (E.arriving l hl).1).0 in
        let scaled : D * (10000 * N.cap l) < D * gross N limit 1 (high_corner N l lower upper) high l = omega (arith, E.above, mul_left_comm D 10000 (N.cap l)) in
        lt-ltb (10000 * N.cap l) (gross N limit 1 (high_corner N l lower upper) high l) (lt_of_mul-lt-mul_left D scaled)
