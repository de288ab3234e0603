-- The list of all runs, built link by link: the numbers so far that lie in the ranges, with one link more. Assumes nothing.
use Prim.Native.Nat.{ℕ, zero, suc, ◌+◌, ◌*◌, ◌-◌, ◌/◌, ◌%◌, ◌≤◌, ◌<◌}
use mathlib.Core.List.{List}
use mathlib.Core.Bool.{Bool, true, ◌&&◌, false≢true}
use mathlib.Core.Path.{◌≡◌, refl, sym, ◌∙◌}
use mathlib.Core.Logic.{◌⊎◌, inl, inr, ⊎_elim}
use native.Mathlib.Nat.{add-mul, mul_assoc, mul_comm, mul-one, one-mul, suc-mul, mul-le-mul, mul-le-mul_left, mul-le-mul_right, one-le-mul, eq-or-lt_of_le, div-add-mod', mod-lt, div-lt_iff_lt-mul}
use native.Mathlib.Omega.{arith}
use borrow.Author.Tests.{leb-true}
use lib.ListN.{get_or}
use Rattle.certificate.specs.Loops.{sum_to}
use Rattle.certificate.specs.Layout.{max_cells, links_of, intervals_of, product_of, cells_of}
use Rattle.certificate.specs.Facts.{Readable}
use Rattle.certificate.proofs.Loops.{every-each, each-every, sum_same}
use Rattle.certificate.proofs.Tests.{and_both, both_and}
use Rattle.grid.specs.Cells.{prefix_of, interval_in}
use Rattle.successors.specs.declared.ranges.Ranges.{Ranges}
use Rattle.successors.specs.Ranges.{in_range, in_ranges, Bounded, FullAfter, RunsOf, how_many}
use Rattle.successors.proofs.Ranging.{below_or, same_test}
use Rattle.successors.proofs.Jumps.{none_in}
use Rattle.successors.proofs.Counting.{many_more, none_pass}

-- number q of intervals of the first l links: they lie in the ranges
unfoldable pub in_to : List ℕ → Ranges → ℕ → ℕ → Bool
in_to s ranges zero q = true
in_to s ranges (suc l) q = in_to s ranges l (q / intervals_of s l) && in_range ranges l (q % intervals_of s l)

-- how many intervals the range of link l has
abbrev pub range_size : Ranges → ℕ → ℕ
range_size ranges l = get_or ranges.last l 0 + 1 - get_or ranges.first l 0

-- after l links, f has the starts of n runs of z numbers each: every number so far in the ranges lies in one of them, and they have as many
-- numbers as there are in the ranges
pub record Built (s : List ℕ) (ranges : Ranges) (l n z : ℕ) (f : ℕ → ℕ) : Type 0 where
  pub fits : (i : ℕ) → i < n → f i + z ≤ product_of s l
  pub all : (q : ℕ) → q < product_of s l → in_to s ranges l q ≡ true → (i : ℕ) × (i < n) × (f i ≤ q) × (q < f i + z)
  pub number : n * z ≡ how_many (product_of s l) (in_to s ranges l)

module _ (s : List ℕ) (ranges : Ranges) where
  -- with no link there is one number
  pub built_none : (f : ℕ → ℕ) → f 0 ≡ 0 → Built s ranges 0 1 1 f
  unfolding product_of in_to sum_to
  built_none f z =
      record {
        fits = λ i lt. let e : i ≡ 0 = omega arith in rw (e, z) (omega arith);
        all = λ q lt h. (0, omega arith, omega arith, omega arith);
        number = refl;
      }

  module _ (B : Bounded s ranges) (l : ℕ) (lt : l < links_of s) (filled : get_or ranges.first l 0 ≤ get_or ranges.last l 0) where
    below : get_or ranges.last l 0 < intervals_of s l
    below = B.last_most l lt

    some : 0 < intervals_of s l
    some = omega (arith, below)

    -- the number of them grows by the size of the range
    number_more : how_many (product_of s (suc l)) (in_to s ranges (suc l)) ≡ how_many (product_of s l) (in_to s ranges l) * range_size ranges l
    unfolding product_of in_to
    number_more = many_more (get_or ranges.first l 0) (get_or ranges.last l 0) filled (in_to s ranges l) (product_of s l) (intervals_of s l) below

    -- what is said of a number with one link more
    parts : (q : ℕ) → q < product_of s (suc l) → in_to s ranges (suc l) q ≡ true
        → (q / intervals_of s l < product_of s l) × (in_to s ranges l (q / intervals_of s l) ≡ true) × (get_or ranges.first l 0 ≤ q % intervals_of s l) × (q % intervals_of s l ≤ get_or ranges.last l 0)
    unfolding product_of in_to
    parts q h e =
        let a = and_both _ _ e in
        let b = and_both _ _ a.1 in
        ((div-lt_iff_lt-mul some).1 h, a.0, leb-true _ _ b.0, leb-true _ _ b.1)

    product_next : product_of s (suc l) ≡ product_of s l * intervals_of s l
    unfolding product_of
    product_next = refl

    module _ (n z : ℕ) (f : ℕ → ℕ) (H : Built s ranges l n z f) where
      -- the numbers with interval j of link l fit
      pub next_fits : (m j : ℕ) → m < n → 1 ≤ z → j < intervals_of s l → f m * intervals_of s l + j < product_of s (suc l)
      next_fits m j below-n one h =
          let u : suc (f m) * intervals_of s l ≤ product_of s l * intervals_of s l = mul-le-mul_right (intervals_of s l) (omega (arith, H.fits m below-n)) in
          omega (arith, product_next, suc-mul (f m) (intervals_of s l))

      -- before the run link: a row for every interval of the range
      module _ (one : z ≡ 1) (g : ℕ → ℕ)
          (rows : (j m : ℕ) → get_or ranges.first l 0 ≤ j → j ≤ get_or ranges.last l 0 → m < n → g ((j - get_or ranges.first l 0) * n + m) ≡ f m * intervals_of s l + j) where
        row_fits : (i : ℕ) → i < range_size ranges l * n → 0 < n → g i + 1 ≤ product_of s (suc l)
        row_fits i h any =
            let j : i / n < range_size ranges l = (div-lt_iff_lt-mul any).1 h in
            let m : i % n < n = mod-lt i any in
            let back : get_or ranges.first l 0 + i / n - get_or ranges.first l 0 ≡ i / n = omega arith in
            let is : g ((get_or ranges.first l 0 + i / n - get_or ranges.first l 0) * n + i % n) ≡ f (i % n) * intervals_of s l + (get_or ranges.first l 0 + i / n) = rows (get_or ranges.first l 0 + i / n) (i % n) (omega arith) (omega arith) m in
            let at : g i ≡ f (i % n) * intervals_of s l + (get_or ranges.first l 0 + i / n) = rw (back, div-add-mod' i n) at is in
            omega (arith, next_fits (i % n) (get_or ranges.first l 0 + i / n) m (omega arith) (omega (arith, below)))

        row_place : (j m : ℕ) → j < range_size ranges l → m < n → j * n + m < range_size ranges l * n
        row_place j m h lt-n =
            let u : suc j * n ≤ range_size ranges l * n = mul-le-mul_right n h in
            omega (arith, suc-mul j n)

        none_listed : n ≡ 0 → (i : ℕ) → i < range_size ranges l * n → ⊥
        none_listed e i h = let w : i < range_size ranges l * 0 = rw e at h in omega arith

        pub built_rows : Built s ranges (suc l) (range_size ranges l * n) 1 g
        built_rows =
            record {
              fits = λ i h. ⊎_elim (λ (e : n ≡ 0). absurd (none_listed e i h)) (λ any. row_fits i h any) (zero_or n);
              all = λ q h e.
                  let p = parts q h e in
                  let x = H.all (q / intervals_of s l) p.0 p.1 in
                  let is : f x.0 ≡ q / intervals_of s l = omega (arith, x.2, one) in
                  let r = rows (q % intervals_of s l) x.0 p.2 p.3 x.1 in
                  let v : g ((q % intervals_of s l - get_or ranges.first l 0) * n + x.0) ≡ q = r ∙ rw is (div-add-mod' q (intervals_of s l)) in
                  ((q % intervals_of s l - get_or ranges.first l 0) * n + x.0, row_place _ _ (omega (arith, p.2, p.3)) x.1, omega arith, omega arith);
              number =
                  let w : n * 1 ≡ how_many (product_of s l) (in_to s ranges l) = rw one at H.number in
                  mul-one _ ∙ mul_comm _ n ∙ rw (number_more, ← w, mul-one);
            }
          where
            zero_or : (k : ℕ) → (k ≡ 0) ⊎ (0 < k)
            zero_or zero = inl refl
            zero_or (suc k) = inr (omega arith)

      -- from the run link on: a run has the range, where a run is one number so far or the range is full
      module _ (how : (z ≡ 1) ⊎ ((get_or ranges.first l 0 ≡ 0) × (get_or ranges.last l 0 + 1 ≡ intervals_of s l))) (g : ℕ → ℕ)
          (first_row : (m : ℕ) → m < n → g m ≡ f m * intervals_of s l + get_or ranges.first l 0) where
        run_fits : (i : ℕ) → i < n → g i + z * range_size ranges l ≤ product_of s (suc l)
        run_fits i h =
            ⊎_elim
            (λ (e : z ≡ 1).
            let u : suc (f i) * intervals_of s l ≤ product_of s l * intervals_of s l = mul-le-mul_right (intervals_of s l) (omega (arith, H.fits i h)) in
            rw (e, one-mul (range_size ranges l)) (omega (arith, product_next, suc-mul (f i) (intervals_of s l), first_row i h, below)))
            (λ (e : (get_or ranges.first l 0 ≡ 0) × (get_or ranges.last l 0 + 1 ≡ intervals_of s l)).
            let size : range_size ranges l ≡ intervals_of s l = omega (arith, e.0, e.1) in
            let u : (f i + z) * intervals_of s l ≤ product_of s l * intervals_of s l = mul-le-mul_right (intervals_of s l) (H.fits i h) in
            rw size (omega (arith, product_next, add-mul (f i) z (intervals_of s l), first_row i h, e.0)))
            how

        run_has : (q i : ℕ) → i < n → f i ≤ q / intervals_of s l → q / intervals_of s l < f i + z → get_or ranges.first l 0 ≤ q % intervals_of s l → q % intervals_of s l ≤ get_or ranges.last l 0
            → (g i ≤ q) × (q < g i + z * range_size ranges l)
        run_has q i h a b low high =
            let back = div-add-mod' q (intervals_of s l) in
            ⊎_elim
            (λ (e : z ≡ 1).
            let is : q / intervals_of s l ≡ f i = omega arith in
            let v : f i * intervals_of s l + q % intervals_of s l ≡ q = rw is at back in
            rw (e, one-mul (range_size ranges l)) (omega (arith, first_row i h), omega (arith, first_row i h)))
            (λ (e : (get_or ranges.first l 0 ≡ 0) × (get_or ranges.last l 0 + 1 ≡ intervals_of s l)).
            let size : range_size ranges l ≡ intervals_of s l = omega (arith, e.0, e.1) in
            let u : f i * intervals_of s l ≤ q / intervals_of s l * intervals_of s l = mul-le-mul_right (intervals_of s l) a in
            let w : suc (q / intervals_of s l) * intervals_of s l ≤ (f i + z) * intervals_of s l = mul-le-mul_right (intervals_of s l) b in
            rw size (omega (arith, first_row i h, e.0), omega (arith, first_row i h, e.0, e.1, suc-mul (q / intervals_of s l) (intervals_of s l), add-mul (f i) z (intervals_of s l))))
            how

        pub built_run : Built s ranges (suc l) n (z * range_size ranges l) g
        built_run =
            record {
              fits = run_fits;
              all = λ q h e.
                  let p = parts q h e in
                  let x = H.all (q / intervals_of s l) p.0 p.1 in
                  let v = run_has q x.0 x.1 x.2 x.3 p.2 p.3 in
                  (x.0, x.1, v.0, v.1);
              number = sym (mul_assoc n z (range_size ranges l)) ∙ rw (number_more, H.number);
            }

  -- the cells in the ranges are the numbers of all links
  to_each : (c l : ℕ) → l ≤ links_of s → in_to s ranges l (prefix_of s c (links_of s - l)) ≡ true → (m : ℕ) → m < l → in_range ranges m (interval_in s c m) ≡ true
  unfolding in_to prefix_of interval_in
  to_each c zero le h m lt = absurd (omega arith)
  to_each c (suc l) le h m lt =
      let a = and_both _ _ h in
      let up : links_of s - l ≡ suc (links_of s - suc l) = omega arith in
      let same : links_of s - suc (links_of s - suc l) ≡ l = omega arith in
      let rest : in_to s ranges l (prefix_of s c (links_of s - l)) ≡ true = rw (up, same) a.0 in
      ⊎_elim
      (λ (is : l ≡ m). rw (← is) a.1)
      (λ (less : m < l). to_each c l (omega arith) rest m less)
      (last_or m l lt)
    where
      last_or : (m l : ℕ) → m < suc l → (l ≡ m) ⊎ (m < l)
      last_or m l h = ⊎_elim (λ a. inr a) (λ (b : l ≤ m). inl (omega arith)) (below_or m l)

  from_each : (c l : ℕ) → l ≤ links_of s → ((m : ℕ) → m < l → in_range ranges m (interval_in s c m) ≡ true) → in_to s ranges l (prefix_of s c (links_of s - l)) ≡ true
  unfolding in_to prefix_of interval_in
  from_each c zero le h = refl
  from_each c (suc l) le h =
      let up : links_of s - l ≡ suc (links_of s - suc l) = omega arith in
      let same : links_of s - suc (links_of s - suc l) ≡ l = omega arith in
      let rest : in_to s ranges l (prefix_of s c (links_of s - l)) ≡ true = from_each c l (omega arith) (λ m lt. h m (omega arith)) in
      both_and _ _ (rw (up, same) at rest) (h l (omega arith))

  in_all : (c : ℕ) → in_to s ranges (links_of s) c ≡ in_ranges s ranges c
  unfolding in_ranges prefix_of
  in_all c =
      let none : links_of s - links_of s ≡ 0 = omega arith in
      same_test _ _
      (λ h. each-every (links_of s) _ (to_each c (links_of s) (omega arith) (rw none h)))
      (λ h. rw none at (from_each c (links_of s) (omega arith) (every-each (links_of s) _ h)))

  -- with all links these are the runs of the ranges
  pub built_all : (n z : ℕ) (a : List ℕ) → n ≤ max_cells → Built s ranges (links_of s) n z (λ i. get_or a i 0) → RunsOf s ranges a n z
  built_all n z a most H =
      record {
        most = most;
        fits = H.fits;
        all = λ c lt h. H.all c lt (in_all c ∙ h);
        number = H.number ∙ sum_same (cells_of s) _ _ (λ c lt. rw (in_all c));
      }

  -- no runs where a range is empty
  pub built_empty : (l : ℕ) (a : List ℕ) → l < links_of s → get_or ranges.last l 0 < get_or ranges.first l 0 → RunsOf s ranges a 0 0
  built_empty l a lt h =
      record {
        most = omega arith;
        fits = λ i w. absurd (omega arith);
        all = λ c w e. absurd (false≢true (sym (none_in s ranges l lt h c) ∙ e));
        number = sym (none_pass (cells_of s) _ (λ c w. none_in s ranges l lt h c));
      }

-- the list of n starts after l links, as the code has it; k is the run link, z the size of a run so far
pub record Listing (s : List ℕ) (ranges : Ranges) (k l n z : ℕ) (a : List ℕ) : Type 0 where
  pub built : Built s ranges l n z (λ i. get_or a i 0)
  pub one : l ≤ k → z ≡ 1
  pub most : n ≤ product_of s l
  pub size_most : z ≤ product_of s l
  pub size_least : 1 ≤ z

module _ (s : List ℕ) (ranges : Ranges) (R : Readable s) (B : Bounded s ranges) (k : ℕ) (F : FullAfter s ranges k) where
  pub listing_none : (a : List ℕ) → get_or a 0 0 ≡ 0 → Listing s ranges k 0 1 1 a
  unfolding product_of
  listing_none a e =
      record {
        built = built_none s ranges (λ i. get_or a i 0) e;
        one = λ le. refl;
        most = omega arith;
        size_most = omega arith;
        size_least = omega arith;
      }

  module _ (l n z : ℕ) (a : List ℕ) (lt : l < links_of s) (filled : get_or ranges.first l 0 ≤ get_or ranges.last l 0) (H : Listing s ranges k l n z a) where
    range_most : range_size ranges l ≤ intervals_of s l
    range_most = omega (arith, B.last_most l lt)

    pub product_fits : product_of s (suc l) ≤ max_cells
    unfolding product_of
    product_fits = (R.grid l lt).product_most

    -- the next list, and the next runs, have no more than there are numbers
    pub list_fits : range_size ranges l * n ≤ product_of s (suc l)
    unfolding product_of
    list_fits =
        let m : range_size ranges l * n ≤ intervals_of s l * product_of s l = mul-le-mul range_most H.most in
        omega (arith, mul_comm (intervals_of s l) (product_of s l))

    pub size_fits : z * range_size ranges l ≤ product_of s (suc l)
    unfolding product_of
    size_fits = mul-le-mul H.size_most range_most

    pub number_fits : (m to : ℕ) → m < n → to ≤ get_or ranges.last l 0 → get_or a m 0 * intervals_of s l + to ≤ max_cells
    number_fits m to h le = omega (arith, product_fits, next_fits s ranges B l lt filled n z _ H.built m to h H.size_least (omega (arith, B.last_most l lt)))

    pub list_most : range_size ranges l * n ≤ max_cells
    list_most = omega (arith, list_fits, product_fits)

    least : 1 ≤ product_of s (suc l)
    unfolding product_of
    least = one-le-mul (omega (arith, H.size_most, H.size_least)) (R.grid l lt).count_least

    grown : n ≤ product_of s (suc l)
    unfolding product_of
    grown =
        let m : product_of s l * 1 ≤ product_of s l * intervals_of s l = mul-le-mul_left (product_of s l) (R.grid l lt).count_least in
        omega (arith, H.most, mul-one (product_of s l))

    pub run_most : n ≤ max_cells
    run_most = omega (arith, grown, product_fits)

    -- one link more before the run link: a row for every interval of its range; r is how many numbers there are then, c the link's count
    pub listing_rows : (r c : ℕ) (b : List ℕ) → l < k → z ≡ 1 → r ≡ range_size ranges l * n → c ≡ intervals_of s l
        → ((j m : ℕ) → get_or ranges.first l 0 ≤ j → j ≤ get_or ranges.last l 0 → m < n → get_or b ((j - get_or ranges.first l 0) * n + m) 0 ≡ get_or a m 0 * c + j)
        → Listing s ranges k (suc l) r 1 b
    listing_rows r c b h one r-is c-is rows =
        record {
          built = rw r-is (built_rows s ranges B l lt filled n z _ H.built one (λ i. get_or b i 0) (λ j m from to below-n. rw c-is at (rows j m from to below-n)));
          one = λ le. refl;
          most = omega (arith, list_fits);
          size_most = omega (arith, least);
          size_least = omega arith;
        }

    -- one from the run link on: its first interval in place, since a run has the others
    pub listing_run : (c : ℕ) (b : List ℕ) → k ≤ l → c ≡ intervals_of s l
        → ((m : ℕ) → m < n → get_or b m 0 ≡ get_or a m 0 * c + get_or ranges.first l 0)
        → Listing s ranges k (suc l) n (z * range_size ranges l) b
    listing_run c b h c-is row =
        let how : (z ≡ 1) ⊎ ((get_or ranges.first l 0 ≡ 0) × (get_or ranges.last l 0 + 1 ≡ intervals_of s l)) = ⊎_elim (λ (is : k ≡ l). inl (H.one (omega arith))) (λ less. inr (F.from_zero l less lt, F.to_end l less lt)) (eq-or-lt_of_le h) in
        record {
          built = built_run s ranges B l lt filled n z _ H.built how (λ i. get_or b i 0) (λ m below-n. rw c-is at (row m below-n));
          one = λ le. absurd (omega arith);
          most = omega (arith, grown);
          size_most = omega (arith, size_fits);
          size_least = one-le-mul H.size_least (omega (arith, filled));
        }
