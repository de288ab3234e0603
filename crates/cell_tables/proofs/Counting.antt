-- The next cell's intervals: the last link counts fastest, and a link that was at its last interval is at 0 again and passes the one on to the link before it. Assumes nothing.
use Prim.Native.Nat.{ℕ, zero, suc, ◌+◌, ◌*◌, ◌-◌, ◌/◌, ◌%◌, ◌≤◌, ◌<◌}
use mathlib.Core.List.{List}
use mathlib.Core.Bool.{Bool, true, false}
use mathlib.Core.Logic.{⊎_elim}
use mathlib.Core.Path.{◌≡◌, refl, sym, ap, ◌∙◌}
use native.Mathlib.Nat.{div-add-mod', mod-lt, mod-eq_of_lt, add-mul, one-mul, zero-div, eq-or-lt_of_le}
use native.Mathlib.Decide.{le_ind}
use native.Mathlib.Omega.{arith}
use borrow.Author.Tests.{ltb-true, ltb-false}
use lib.Dec.{ltb}
use lib.ListN.{length, get_or, set, replicate, length-set, get_or-replicate}
use lib.Seq.{get_or-set_same, get_or-set_other}
use Rattle.certificate.specs.Layout.{max_intervals, max_links, links_of, intervals_of}
use Rattle.certificate.specs.Facts.{Readable}
use Rattle.grid.specs.Cells.{prefix_of, interval_in}
use Rattle.grid.proofs.Numbers.{split_number}
use Rattle.octets.specs.Tables.{Holds}

-- one more, within a round
one_more : (q n : ℕ) → q % n + 1 < n → ((q + 1) / n ≡ q / n) × ((q + 1) % n ≡ q % n + 1)
one_more q n lt =
    let e : q + 1 ≡ q / n * n + (q % n + 1) = omega (arith, div-add-mod' q n) in
    let x = split_number (q / n) n (q % n + 1) lt in
    (ap (λ (m : ℕ). m / n) e ∙ x.0, ap (λ (m : ℕ). m % n) e ∙ x.1)

-- one more, at the end of a round
round_over : (q n : ℕ) → 0 < n → n ≤ q % n + 1 → ((q + 1) / n ≡ q / n + 1) × ((q + 1) % n ≡ 0)
round_over q n some le =
    let below : q % n < n = mod-lt q some in
    let e : q + 1 ≡ (q / n + 1) * n + 0 = omega (arith, div-add-mod' q n, add-mul (q / n) 1 n, one-mul n) in
    let x = split_number (q / n + 1) n 0 some in
    (ap (λ (m : ℕ). m / n) e ∙ x.0, ap (λ (m : ℕ). m % n) e ∙ x.1)

-- cells that agree on what is left at the last j links agree on what is left at more
prefix_later : (s : List ℕ) (c d j m : ℕ) → prefix_of s c j ≡ prefix_of s d j → j ≤ m → prefix_of s c m ≡ prefix_of s d m
unfolding prefix_of
prefix_later s c d j m e le = le_ind (λ m. prefix_of s c m ≡ prefix_of s d m) e (λ m h p. rw p) m le

-- what is left before link l is the quotient of what is left after it
prefix_before : (s : List ℕ) (c l : ℕ) → l < links_of s → prefix_of s c (links_of s - l) ≡ prefix_of s c (links_of s - suc l) / intervals_of s l
unfolding prefix_of
prefix_before s c l lt =
    let e : links_of s - l ≡ suc (links_of s - suc l) = omega arith in
    let f : links_of s - suc (links_of s - suc l) ≡ l = omega arith in
    rw (e, f)

-- a table with v put at l: the entries before l are as they were
put_below : (l v : ℕ) (a : List ℕ) (f : ℕ → ℕ) → Holds l f a → Holds l f (set a l v)
put_below l v a f h k lt = rw (get_or-set_other a l k v 0 (λ z. omega arith)) (h k lt)

-- from l on they are those of f, where v is one and those after it are
put_from : (n l v : ℕ) (a : List ℕ) (f : ℕ → ℕ) → l < length a → v ≡ f l → ((k : ℕ) → suc l ≤ k → k < n → get_or a k 0 ≡ f k)
    → (k : ℕ) → l ≤ k → k < n → get_or (set a l v) k 0 ≡ f k
put_from n l v a f fits e h k le lt =
    ⊎_elim
    (λ (same : l ≡ k). rw (← same, get_or-set_same a l v 0 fits) e)
    (λ (after : l < k). rw (get_or-set_other a l k v 0 (λ z. omega arith)) (h k after lt))
    (eq-or-lt_of_le le)

-- and so all n are
put_all : (n l v : ℕ) (a : List ℕ) (f : ℕ → ℕ) → l < length a → Holds l f a → v ≡ f l → ((k : ℕ) → suc l ≤ k → k < n → get_or a k 0 ≡ f k)
    → Holds n f (set a l v)
put_all n l v a f fits below e after k lt = go (ltb k l) refl
  where
    go : (b : Bool) → ltb k l ≡ b → get_or (set a l v) k 0 ≡ f k
    go true q = put_below l v a f below k (ltb-true k l q)
    go false q = put_from n l v a f fits e after k (ltb-false k l q) lt

-- the table a has the intervals of cell c
abbrev pub Row : List ℕ → ℕ → List ℕ → Type 0
Row s c a = Holds (links_of s) (interval_in s c) a

-- every interval of cell 0 is 0
pub first_row : (s : List ℕ) → Readable s → Row s 0 (replicate max_links 0)
unfolding interval_in prefix_of
first_row s R l lt =
    get_or-replicate {A = ℕ} max_links l 0 0 (omega (arith, R.header.links_most)) ∙ rw (none (links_of s - suc l)) (sym (mod-eq_of_lt (R.grid l lt).count_least))
  where
    none : (k : ℕ) → prefix_of s 0 k ≡ 0
    none zero = refl
    none (suc k) = rw (none k) (zero-div _)

-- on the way from cell c to the next: the links from l on are done, and those before it are to go up by one
pub record Counted (s : List ℕ) (c l : ℕ) (a : List ℕ) : Type 0 where
  pub size : length a ≡ max_links
  pub most : l ≤ links_of s
  pub to_do : Holds l (interval_in s c) a
  pub done : (k : ℕ) → l ≤ k → k < links_of s → get_or a k 0 ≡ interval_in s (c + 1) k
  pub carry : prefix_of s (c + 1) (links_of s - l) ≡ prefix_of s c (links_of s - l) + 1

module _ (s : List ℕ) (R : Readable s) (c : ℕ) where
  -- at the start every link is to do
  pub count_start : (l : ℕ) (a : List ℕ) → l ≡ links_of s → length a ≡ max_links → Row s c a → Counted s c l a
  unfolding prefix_of
  count_start l a e n r =
      let z : links_of s - l ≡ 0 = omega arith in
      record {
        size = n;
        most = omega arith;
        to_do = λ k lt. r k (omega arith);
        done = λ k le lt. absurd (omega arith);
        carry = rw z;
      }

  -- at the last link that is to do, which goes up by one, or is 0 again
  module _ (l : ℕ) (a : List ℕ) (h : Counted s c (suc l) a) where
    -- the link is there, and its interval is what is left of the cell's number, modulo its count
    exists : l < links_of s
    exists = omega (arith, h.most)

    fits : l < length a
    fits = omega (arith, h.size, h.most, R.header.links_most)

    here : get_or a l 0 ≡ prefix_of s c (links_of s - suc l) % intervals_of s l
    unfolding interval_in
    here = h.to_do l (omega arith)

    -- which is a small number
    pub interval_small : get_or a l 0 < max_intervals
    interval_small =
        let G = R.grid l exists in
        omega (arith, here, mod-lt (prefix_of s c (links_of s - suc l)) G.count_least, G.count_most)

    -- below its last interval it goes up by one, and the next cell's intervals are all there
    pub count_stop : get_or a l 0 + 1 < intervals_of s l → Row s (c + 1) (set a l (get_or a l 0 + 1))
    unfolding interval_in
    count_stop lt =
        let next = one_more (prefix_of s c (links_of s - suc l)) (intervals_of s l) (omega (arith, here)) in
        let same : prefix_of s (c + 1) (links_of s - l) ≡ prefix_of s c (links_of s - l) = rw (prefix_before s c l exists, prefix_before s (c + 1) l exists, h.carry) next.0 in
        put_all (links_of s) l _ a _ fits
        (λ k lt. h.to_do k (omega arith) ∙ rw (prefix_later s (c + 1) c (links_of s - l) (links_of s - suc k) same (omega arith)))
        (rw (h.carry, here) (sym next.1))
        h.done

    -- at its last interval it is 0 again, and the link before it is next
    pub count_on : intervals_of s l ≤ get_or a l 0 + 1 → Counted s c l (set a l 0)
    unfolding interval_in
    count_on le =
        let some = (R.grid l exists).count_least in
        let next = round_over (prefix_of s c (links_of s - suc l)) (intervals_of s l) some (omega (arith, here)) in
        record {
          size = length-set a l 0 ∙ h.size;
          most = omega arith;
          to_do = put_below l 0 a _ (λ k lt. h.to_do k (omega arith));
          done = put_from (links_of s) l 0 a _ fits (rw h.carry (sym next.1)) h.done;
          carry = rw (prefix_before s c l exists, prefix_before s (c + 1) l exists, h.carry) next.0;
        }
