-- The two least of some numbers: one number more, and what a link sends by them. Assumes nothing.
use Prim.Native.Nat.{ℕ, ◌+◌, ◌≤◌, ◌<◌, min, max}
use mathlib.Core.Bool.{Bool, true, false}
use mathlib.Core.Path.{◌≡◌, refl, sym, ◌∙◌}
use native.Mathlib.Omega.{arith}
use borrow.Author.Tests.{eqb-true, eqb-false, eq-eqb, ne_eqb, leb-true, le-leb}
use lib.Dec.{leb, eqb}
use Rattle.certificate.specs.Loops.{pick}
use Rattle.network.specs.Flow.{least_to}
use Rattle.supply.specs.declared.Two.{Two}
use Rattle.supply.specs.Supply.{TwoLeast, sent_by}
use Rattle.supply.proofs.LeastNumbers.{least_in, least_same, least_start, least_more}
use Rattle.network.proofs.Sending.{least_from, least_base, least_at}

-- next where a is the least, else the least
chosen : (a least next r : ℕ) → (a ≡ least → next ≡ r) → ((a ≡ least → ⊥) → least ≡ r) → pick (eqb a least) next least ≡ r
chosen a least next r same apart = go (eqb a least) refl
  where
    go : (q : Bool) → eqb a least ≡ q → pick q next least ≡ r
    go true q = same (eqb-true _ _ q)
    go false q = apart (eqb-false _ _ q)

-- the numbers but t's
abbrev but : (ℕ → ℕ) → ℕ → ℕ → ℕ
but f t u = pick (eqb u t) 1000000 (f u)

-- t's number of near and the others of far
abbrev mixed : (ℕ → ℕ) → (ℕ → ℕ) → ℕ → ℕ → ℕ
mixed near far t u = pick (eqb u t) (near u) (far u)

pub two_none : (f : ℕ → ℕ) (from : ℕ) → TwoLeast f from from (record { least = 1000000; next = 1000000 })
two_none f from = record { least_is = least_start from f 1000000; ordered = omega arith; others_is = λ t le lt. absurd (omega arith) }

pub two_more : (f : ℕ → ℕ) (from end v : ℕ) (two more : Two) → TwoLeast f from end two → from ≤ end → v ≡ f end
    → more.least ≡ min v two.least → more.next ≡ min (max v two.least) two.next → TwoLeast f from (end + 1) more
two_more f from end v two more T le ev el en =
    record {
      least_is = least_more from end f 1000000 two.least v more.least T.least_is le ev el;
      ordered = omega (arith, T.ordered);
      others_is = λ t ht lt. go t ht lt (eqb end t) refl;
    }
  where
    one_more : (t : ℕ) → least_to (end + 1) (leb from) (but f t) 1000000 ≡ min (but f t end) (least_to end (leb from) (but f t) 1000000)
    one_more t = least_in end (leb from) (but f t) 1000000 (le-leb from end le)

    go : (t : ℕ) → from ≤ t → t < end + 1 → (q : Bool) → eqb end t ≡ q
        → pick (eqb (f t) more.least) more.next more.least ≡ least_to (end + 1) (leb from) (but f t) 1000000
    go t ht lt true q =
        let here : end ≡ t = eqb-true _ _ q in
        let new : v ≡ f t = rw (← here) ev in
        let rest : least_to end (leb from) (but f t) 1000000 ≡ two.least =
        least_same end _ _ _ _ _ (λ u lu. refl) (λ u lu p. rw (ne_eqb u t (λ e. omega arith)) refl) ∙ sym T.least_is in
        let all : least_to (end + 1) (leb from) (but f t) 1000000 ≡ two.least = one_more t ∙ rw (q, rest) (omega (arith, T.ordered)) in
        rw all (chosen (f t) more.least more.next two.least (λ e. omega (arith, T.ordered)) (λ e. omega (arith, T.ordered)))
    go t ht lt false q =
        let other : end ≡ t → ⊥ = eqb-false _ _ q in
        let before : t < end = omega arith in
        let all : least_to (end + 1) (leb from) (but f t) 1000000 ≡ min v (pick (eqb (f t) two.least) two.next two.least) = one_more t ∙ rw (q, ev, T.others_is t ht before) refl in
        let low : least_to end (leb from) f 1000000 ≤ f t = least_at end (leb from) f 1000000 t before (le-leb from t ht) in
        let lowest : two.least ≤ f t = rw T.least_is low in
        rw all (by (eqb (f t) two.least) refl lowest)
      where
        by : (q : Bool) → eqb (f t) two.least ≡ q → two.least ≤ f t → pick (eqb (f t) more.least) more.next more.least ≡ min v (pick q two.next two.least)
        by true e h = let is : f t ≡ two.least = eqb-true _ _ e in chosen (f t) more.least more.next (min v two.next) (λ a. omega (arith, T.ordered)) (λ a. omega (arith, T.ordered))
        by false e h = let isnt : f t ≡ two.least → ⊥ = eqb-false _ _ e in chosen (f t) more.least more.next (min v two.least) (λ a. omega arith) (λ a. omega arith)

-- numbers that agree have the same two
pub two_same : (f g : ℕ → ℕ) (from end : ℕ) (two : Two) → TwoLeast f from end two → ((t : ℕ) → from ≤ t → t < end → g t ≡ f t) → TwoLeast g from end two
two_same f g from end two T same =
    record {
      least_is = T.least_is ∙ sym (least_same end _ _ _ _ _ (λ t lt. refl) (λ t lt p. same t (leb-true _ _ p) lt));
      ordered = T.ordered;
      others_is = λ t ht lt. rw (same t ht lt) (T.others_is t ht lt ∙ sym (least_same end (leb from) (leb from) (but g t) (but f t) 1000000 (λ u lu. refl) (λ u lu p. rw (same u (leb-true _ _ p) lu) refl)));
    }

-- with its own supplies on all turns a link sends the least of them and of the most that it may send
pub sent_least : (near : ℕ → ℕ) (from end least most : ℕ) → least ≡ least_to end (leb from) near 1000000 → most ≤ 1000000
    → min least most ≡ least_to end (leb from) near most
sent_least near from end least most e h =
    let below : min least most ≤ least_to end (leb from) near most =
    least_from end _ _ _ _ (omega arith) (λ t lt p. omega (arith, least_at end (leb from) near 1000000 t lt p)) in
    let above : least_to end (leb from) near most ≤ least_to end (leb from) near 1000000 =
    least_from end _ _ _ _ (omega (arith, least_base end (leb from) near most)) (λ t lt p. least_at end (leb from) near most t lt p) in
    omega (arith, below, above, least_base end (leb from) near most)

-- with turn t's supply of near and the others' of far it sends the least of the one, of the least of the others, and of the most
pub sent_two : (near far : ℕ → ℕ) (from end : ℕ) (two : Two) (m most t r : ℕ) → TwoLeast far from end two → m ≡ most → most ≤ 1000000 → from ≤ t → t < end
    → r ≡ min (min (near t) (pick (eqb (far t) two.least) two.next two.least)) m → r ≡ sent_by near far from end most t
sent_two near far from end two m most t r T em h ht lt er =
    let all : r ≡ min (min (near t) (least_to end (leb from) (but far t) 1000000)) most = er ∙ rw (T.others_is t ht lt, em) refl in
    omega (arith, below, own, rest, least_base end (leb from) (mixed near far t) most)
  where
    own : least_to end (leb from) (mixed near far t) most ≤ near t
    own = rw (eq-eqb t t refl) at (least_at end (leb from) (mixed near far t) most t lt (le-leb from t ht))

    rest : least_to end (leb from) (mixed near far t) most ≤ least_to end (leb from) (but far t) 1000000
    rest = least_from end _ _ _ _ (omega (arith, least_base end (leb from) (mixed near far t) most)) (λ u lu p. go u lu p (eqb u t) refl)
      where
        go : (u : ℕ) → u < end → leb from u ≡ true → (q : Bool) → eqb u t ≡ q → least_to end (leb from) (mixed near far t) most ≤ pick q 1000000 (far u)
        go u lu p true q = omega (arith, least_base end (leb from) (mixed near far t) most)
        go u lu p false q = rw q at (least_at end (leb from) (mixed near far t) most u lu p)

    below : min (min (near t) (least_to end (leb from) (but far t) 1000000)) most ≤ least_to end (leb from) (mixed near far t) most
    below = least_from end _ _ _ _ (omega arith) (λ u lu p. go u lu p (eqb u t) refl)
      where
        go : (u : ℕ) → u < end → leb from u ≡ true → (q : Bool) → eqb u t ≡ q → min (min (near t) (least_to end (leb from) (but far t) 1000000)) most ≤ pick q (near u) (far u)
        go u lu p true q = let here : u ≡ t = eqb-true _ _ q in rw here (omega arith)
        go u lu p false q = let other : least_to end (leb from) (but far t) 1000000 ≤ far u = rw q at (least_at end (leb from) (but far t) 1000000 u lu p) in omega arith
