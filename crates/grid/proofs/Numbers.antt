-- Cell numbers: those below the product of the counts, each from exactly one choice of intervals. Assumes nothing.
use Prim.Native.Nat.{ℕ, zero, suc, ◌+◌, ◌*◌, ◌-◌, ◌/◌, ◌%◌, ◌≤◌, ◌<◌}
use mathlib.Core.List.{List}
use mathlib.Core.Logic.{◌⊎◌, inl, inr, ⊎_elim}
use mathlib.Core.Path.{◌≡◌, refl, sym, ap, ◌∙◌}
use native.Mathlib.Nat.{mul-zero, eq-zero-or-pos, eq-or-lt_of_le, suc-mul, mul-le-mul_right, mul-add-div_right, mul-add-mod_self_right, mod-eq_of_lt, div-eq_of_lt, div-add-mod', mod-lt, div-lt_iff_lt-mul}
use native.Mathlib.Omega.{arith}
use borrow.Author.Tests.{eq-eqb, ne_eqb}
use lib.Dec.{eqb}
use Rattle.certificate.specs.Loops.{pick}
use Rattle.certificate.specs.Layout.{links_of, intervals_of, product_of, cells_of}
use Rattle.certificate.specs.Facts.{Readable}
use Rattle.grid.specs.Cells.{number_of, prefix_of, interval_in}
use Rattle.grid.specs.Laws.{ChoiceTo, Choice, LinkByLink, ReadsBack, IsChoice, BuildsAgain}

-- choices that agree on the links before l have the same number
pub number_same : (s : List ℕ) (i j : ℕ → ℕ) (l : ℕ) → ((k : ℕ) → k < l → i k ≡ j k) → number_of s i l ≡ number_of s j l
unfolding number_of
number_same s i j zero h = refl
number_same s i j (suc l) h = rw (number_same s i j l (λ k lt. h k (omega arith)), h l (omega arith))

-- a number so far with one link more: divided by the link's count it is the number so far, and the interval is left over
pub split_number : (n c i : ℕ) → i < c → ((n * c + i) / c ≡ n) × ((n * c + i) % c ≡ i)
split_number n c i lt =
    let e : (n * c + i) / c ≡ n + i / c = mul-add-div_right (omega arith) _ _ in
    let z : i / c ≡ 0 = div-eq_of_lt lt in
    (omega arith, mul-add-mod_self_right _ _ _ ∙ mod-eq_of_lt lt)

number_over : (s : List ℕ) (i : ℕ → ℕ) (l : ℕ) → i l < intervals_of s l → number_of s i (suc l) / intervals_of s l ≡ number_of s i l
unfolding number_of
number_over s i l h = (split_number _ _ _ h).0

number_rest : (s : List ℕ) (i : ℕ → ℕ) (l : ℕ) → i l < intervals_of s l → number_of s i (suc l) % intervals_of s l ≡ i l
unfolding number_of
number_rest s i l h = (split_number _ _ _ h).1

-- with one link more a number stays below the product, for every choice up to there
number_below : (s : List ℕ) (l : ℕ) (i : ℕ → ℕ) → ChoiceTo s l i → number_of s i l < product_of s l
unfolding number_of product_of
number_below s zero i h = omega arith
number_below s (suc l) i h =
    let rest : suc (number_of s i l) ≤ product_of s l = number_below s l i (λ k lt. h k (omega arith)) in
    let more : suc (number_of s i l) * intervals_of s l ≤ product_of s l * intervals_of s l = mul-le-mul_right _ rest in
    let here : i l < intervals_of s l = h l (omega arith) in
    omega (arith, suc-mul (number_of s i l) (intervals_of s l))

-- the choice i, but r on link l
put : (ℕ → ℕ) → ℕ → ℕ → ℕ → ℕ
put i l r k = pick (eqb k l) r (i k)

put_here : (i : ℕ → ℕ) (l r : ℕ) → put i l r l ≡ r
unfolding put
put_here i l r = rw (eq-eqb l l refl)

put_other : (i : ℕ → ℕ) (l r k : ℕ) → k < l → put i l r k ≡ i k
unfolding put
put_other i l r k lt = rw (ne_eqb k l (omega arith))

-- a number below the product comes from the choice of its quotient by the last count, with the remainder on the last link
number_some : (s : List ℕ) (l n : ℕ) → n < product_of s l → (i : ℕ → ℕ) × ChoiceTo s l i × (number_of s i l ≡ n)
unfolding number_of product_of
number_some s zero n lt = ((λ _. 0), (λ k h. absurd (omega arith)), omega arith)
number_some s (suc l) n lt = more (eq-zero-or-pos (intervals_of s l)) (number_some s l (n / intervals_of s l))
  where
    more : (intervals_of s l ≡ 0) ⊎ (0 < intervals_of s l)
        → (n / intervals_of s l < product_of s l → (i : ℕ → ℕ) × ChoiceTo s l i × (number_of s i l ≡ n / intervals_of s l))
        → (i : ℕ → ℕ) × ChoiceTo s (suc l) i × (number_of s i l * intervals_of s l + i l ≡ n)
    more (inl z) rest = absurd (omega (arith, rw (z, mul-zero) at lt))
    more (inr c) rest =
        let (i, h, e) = rest ((div-lt_iff_lt-mul c).1 lt) in
        let r = n % intervals_of s l in (
          put i l r,
          (λ k below. ⊎_elim (λ (same : k ≡ l). rw (same, put_here i l r) (mod-lt n c)) (λ under. rw (put_other i l r k under) (h k under)) (eq-or-lt_of_le (omega arith))),
          rw (number_same s (put i l r) i l (put_other i l r), put_here i l r, e) (div-add-mod' n (intervals_of s l)),
        )

-- two choices with one number have the same last interval, and the same number before it
number_one : (s : List ℕ) (l : ℕ) (i j : ℕ → ℕ) → ChoiceTo s l i → ChoiceTo s l j → number_of s i l ≡ number_of s j l → (k : ℕ) → k < l → i k ≡ j k
number_one s zero i j hi hj e k lt = absurd (omega arith)
number_one s (suc l) i j hi hj e k lt =
    let oi : i l < intervals_of s l = hi l (omega arith) in
    let oj : j l < intervals_of s l = hj l (omega arith) in
    let over : number_of s i l ≡ number_of s j l = sym (number_over s i l oi) ∙ ap (λ n. n / intervals_of s l) e ∙ number_over s j l oj in
    let rest : i l ≡ j l = sym (number_rest s i l oi) ∙ ap (λ n. n % intervals_of s l) e ∙ number_rest s j l oj in
    ⊎_elim (λ (same : k ≡ l). rw same rest) (λ under. number_one s l i j (λ m h. hi m (omega arith)) (λ m h. hj m (omega arith)) over k under) (eq-or-lt_of_le (omega arith))

pub link_by_link : LinkByLink
link_by_link s l = record { below = number_below s l; some = number_some s l; one = number_one s l }

-- with the last k links taken off, the number of a choice is that of the links before them
pub prefix_of_number : (s : List ℕ) (i : ℕ → ℕ) → Choice s i → (k : ℕ) → k ≤ links_of s → prefix_of s (number_of s i (links_of s)) k ≡ number_of s i (links_of s - k)
unfolding prefix_of
prefix_of_number s i h zero le = ap (number_of s i) (omega arith)
prefix_of_number s i h (suc k) le =
    let e : links_of s - k ≡ suc (links_of s - suc k) = omega arith in
    rw (prefix_of_number s i h k (omega arith), e) (number_over s i (links_of s - suc k) (h _ (omega arith)))

pub reads_back : ReadsBack
unfolding interval_in
reads_back s i h l lt =
    let e : links_of s - (links_of s - suc l) ≡ suc l = omega arith in
    rw (prefix_of_number s i h (links_of s - suc l) (omega arith), e) (number_rest s i l (h l lt))

pub is_choice : IsChoice
unfolding interval_in
is_choice s R c l lt = mod-lt _ (R.grid l lt).count_least

-- what is left of a cell number is below the product of the counts of the links that are left
pub prefix_fits : (s : List ℕ) → Readable s → (c : ℕ) → c < cells_of s → (k : ℕ) → k ≤ links_of s → prefix_of s c k < product_of s (links_of s - k)
unfolding prefix_of product_of
prefix_fits s R c h zero le = let e : links_of s - 0 ≡ links_of s = omega arith in rw e h
prefix_fits s R c h (suc k) le =
    let e : links_of s - k ≡ suc (links_of s - suc k) = omega arith in
    let rest : prefix_of s c k < product_of s (suc (links_of s - suc k)) = rw e at (prefix_fits s R c h k (omega arith)) in
    (div-lt_iff_lt-mul (R.grid (links_of s - suc k) (omega arith)).count_least).1 rest

-- built from the intervals read off it, the number of the first l links is what is left of the cell number there
pub prefix_again : (s : List ℕ) → Readable s → (c : ℕ) → c < cells_of s → (l : ℕ) → l ≤ links_of s → number_of s (interval_in s c) l ≡ prefix_of s c (links_of s - l)
unfolding number_of product_of prefix_of interval_in
prefix_again s R c h zero le =
    let e : links_of s - (links_of s - 0) ≡ 0 = omega arith in
    let one : prefix_of s c (links_of s - 0) < product_of s 0 = rw e at (prefix_fits s R c h (links_of s - 0) (omega arith)) in
    omega arith
prefix_again s R c h (suc l) le =
    let e : links_of s - l ≡ suc (links_of s - suc l) = omega arith in
    let f : links_of s - suc (links_of s - suc l) ≡ l = omega arith in
    let rest : number_of s (interval_in s c) l ≡ prefix_of s c (links_of s - suc l) / intervals_of s (links_of s - suc (links_of s - suc l)) = rw e at (prefix_again s R c h l (omega arith)) in
    rw (rest, f) (div-add-mod' _ _)

pub builds_again : BuildsAgain
unfolding prefix_of
builds_again s R c h =
    let e : links_of s - links_of s ≡ 0 = omega arith in
    rw e at (prefix_again s R c h (links_of s) (omega arith))

-- two cells with the same interval on every link are one cell
pub cell_same : (s : List ℕ) → Readable s → (c d : ℕ) → c < cells_of s → d < cells_of s → ((l : ℕ) → l < links_of s → interval_in s c l ≡ interval_in s d l) → c ≡ d
cell_same s R c d hc hd h = sym (builds_again s R c hc) ∙ number_same s _ _ (links_of s) h ∙ builds_again s R d hd
