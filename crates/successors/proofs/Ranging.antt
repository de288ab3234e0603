-- The intervals of a link that meet a range follow one another; a successor is a cell in the ranges of all links. Assumes nothing.
use Prim.Native.Nat.{ℕ, zero, suc, ◌+◌, ◌*◌, ◌≤◌, ◌<◌}
use mathlib.Core.List.{List}
use mathlib.Core.Bool.{Bool, true, false, ◌&&◌}
use mathlib.Core.Path.{◌≡◌, refl, sym, ◌∙◌}
use mathlib.Core.Logic.{◌⊎◌, inl, inr, ⊎_elim}
use native.Mathlib.Omega.{arith}
use borrow.Author.Tests.{leb-true, leb-false, ltb-true, ltb-false, lt-ltb, le-ltb, le-leb, lt-leb}
use lib.ListN.{get_or}
use lib.Dec.{leb, ltb}
use Rattle.certificate.specs.Loops.{pick, every}
use Rattle.certificate.specs.Records.{cut_before}
use Rattle.certificate.specs.Layout.{links_of, intervals_of}
use Rattle.certificate.specs.Facts.{Readable}
use Rattle.certificate.proofs.Loops.{every-each, each-every}
use Rattle.grid.specs.Intervals.{lower_edge, upper_edge}
use Rattle.grid.specs.Successors.{image_low, image_high, meets, is_successor}
use Rattle.octets.specs.Tables.{Holds}
use Rattle.successors.specs.declared.ranges.Ranges.{Ranges}
use Rattle.successors.specs.Ranges.{low_meets, IsFirst, IsLast, in_ranges, RangesOf}
use Rattle.grid.proofs.Numbers.{is_choice}
use Rattle.grid.proofs.Edges.{upper_inner, upper_last, upper_most, cuts_ascend}

pub below_or : (a b : ℕ) → (a < b) ⊎ (b ≤ a)
below_or a b = go (ltb a b) refl
  where
    go : (t : Bool) → ltb a b ≡ t → (a < b) ⊎ (b ≤ a)
    go true e = inl (ltb-true _ _ e)
    go false e = inr (ltb-false _ _ e)

module _ (s : List ℕ) (l : ℕ) where
  -- the test against the low end
  low_inner : (i low : ℕ) → i + 1 < intervals_of s l → low_meets s l i low ≡ ltb low (10000 * upper_edge s l i)
  unfolding low_meets
  low_inner i low inner = rw (lt-ltb (i + 1) (intervals_of s l) inner)

  low_last : (i low : ℕ) → intervals_of s l ≤ i + 1 → low_meets s l i low ≡ leb low (10000 * upper_edge s l i)
  unfolding low_meets
  low_last i low outer = rw (le-ltb (i + 1) (intervals_of s l) outer, upper_last s l i outer)

  -- r is how many of the first i upper edges are at most `end`: they ascend, so those from r on are above it
  pub record Passed (end r i : ℕ) : Type 0 where
    pub most : r ≤ i
    pub from : (k : ℕ) → k < i → leb r k ≡ ltb end (10000 * upper_edge s l k)

  pub passed_none : (end : ℕ) → Passed end 0 0
  passed_none end = record { most = omega arith; from = λ k lt. absurd (omega arith) }

  module _ (R : Readable s) (lt : l < links_of s) where
    uppers_ascend : (i j : ℕ) → i ≤ j → upper_edge s l i ≤ upper_edge s l j
    uppers_ascend i j le =
        ⊎_elim
        (λ inner. rw (upper_inner s l j inner, upper_inner s l i (omega arith)) (cuts_ascend s R l lt i j le inner))
        (λ outer. rw (upper_last s l j outer) (upper_most s R l lt i))
        (below_or (j + 1) (intervals_of s l))

    -- one edge e more
    module _ (end r i e : ℕ) (e-is : e ≡ 10000 * upper_edge s l i) (P : Passed end r i) where
      -- if it is at most the end, so are all before it
      all_passed : e ≤ end → r ≡ i
      all_passed le = ⊎_elim (λ b. absurd (omega (arith, above b, uppers_ascend r i P.most))) (λ a. omega (arith, P.most)) (below_or r i)
        where
          above : r < i → end < 10000 * upper_edge s l r
          above b = ltb-true _ _ (sym (P.from r b) ∙ le-leb r r (omega arith))

      pub passed_more : (v : ℕ) → v ≡ pick (leb e end) (r + 1) r → Passed end v (i + 1)
      passed_more v q = go (leb e end) refl q
        where
          go : (t : Bool) → leb e end ≡ t → v ≡ pick t (r + 1) r → Passed end v (i + 1)
          go true h w =
              let le = leb-true e end h in
              let all : v ≡ i + 1 = omega (arith, all_passed le, w) in
              record {
                most = omega arith;
                from = λ k b. lt-leb v k (omega arith) ∙ sym (le-ltb end _ (omega (arith, uppers_ascend k i (omega arith))));
              }
          go false h w =
              let gt = leb-false e end h in
              record {
                most = omega (arith, P.most);
                from = λ k b. ⊎_elim
                    (λ before. rw w (P.from k before))
                    (λ (here : i ≤ k). let same : k ≡ i = omega arith in le-leb v k (omega (arith, P.most)) ∙ sym (lt-ltb end _ (rw same (omega arith))))
                    (below_or k i);
              }

    -- past the inner edges: e is the upper edge of the last interval
    module _ (end r inner e : ℕ) (all : inner + 1 ≡ intervals_of s l) (e-is : e ≡ 10000 * upper_edge s l inner) (P : Passed end r inner) where
      pub first_inside : end ≤ e → IsFirst s l end r
      first_inside le =
          record {
            most = omega (arith, P.most);
            from = λ k b. ⊎_elim
                (λ h. P.from k h ∙ sym (low_inner k end (omega arith)))
                (λ (h : inner ≤ k). let same : k ≡ inner = omega arith in
                le-leb r k (omega (arith, P.most)) ∙ sym (low_last k end (omega arith) ∙ le-leb end _ (rw same (omega arith))))
                (below_or k inner);
          }

      pub first_beyond : (v : ℕ) → v ≡ intervals_of s l → e < end → IsFirst s l end v
      first_beyond v v-is lt =
          record {
            most = omega arith;
            from = λ k b. lt-leb v k (omega arith) ∙ sym (below k (omega (arith, uppers_ascend k inner (omega arith))));
          }
        where
          below : (k : ℕ) → 10000 * upper_edge s l k < end → low_meets s l k end ≡ false
          below k h =
              ⊎_elim (λ a. low_inner k end a ∙ le-ltb end _ (omega arith)) (λ a. low_last k end a ∙ lt-leb end _ h) (below_or (k + 1) (intervals_of s l))

      pub last_inside : IsLast s l end r
      unfolding cut_before
      last_inside = record { most = omega (arith, P.most); to = go }
        where
          swap : (k edge : ℕ) → leb r k ≡ ltb end edge → leb (suc k) r ≡ leb edge end
          swap k edge h =
              ⊎_elim
              (λ a. lt-leb (suc k) r (omega arith) ∙ sym (lt-leb edge end (ltb-true _ _ (sym h ∙ le-leb r k (omega arith)))))
              (λ a. le-leb (suc k) r (omega arith) ∙ sym (le-leb edge end (ltb-false _ _ (sym h ∙ lt-leb r k (omega arith)))))
              (below_or r (suc k))

          go : (k : ℕ) → k < intervals_of s l → leb k r ≡ leb (10000 * lower_edge s l k) end
          go zero b = le-leb 0 r (omega arith) ∙ sym (le-leb (10000 * 0) end (omega arith))
          go (suc k) b = rw (← upper_inner s l k (omega arith)) (swap k _ (P.from k (omega arith)))

-- the two tests together
and_swap : (a b : Bool) → (a && b) ≡ (b && a)
and_swap true true = refl
and_swap true false = refl
and_swap false true = refl
and_swap false false = refl

meets_parts : (s : List ℕ) (l i low high : ℕ) → meets s l i low high ≡ (leb (10000 * lower_edge s l i) high && low_meets s l i low)
unfolding meets low_meets
meets_parts s l i low high = refl

pub range_meets : (s low high : List ℕ) (ranges : Ranges)
    → ((l : ℕ) → l < links_of s → IsFirst s l (get_or low l 0) (get_or ranges.first l 0))
    → ((l : ℕ) → l < links_of s → IsLast s l (get_or high l 0) (get_or ranges.last l 0))
    → RangesOf s low high ranges
range_meets s low high ranges F L =
    record {
      bounded = record { first_most = λ l lt. (F l lt).most; last_most = λ l lt. (L l lt).most };
      meet = λ l i lt h. meets_parts s l i _ _ ∙ rw (← (L l lt).to i h, ← (F l lt).from i h) (and_swap (leb i (get_or ranges.last l 0)) (leb (get_or ranges.first l 0) i));
    }

pub same_test : (a b : Bool) → (a ≡ true → b ≡ true) → (b ≡ true → a ≡ true) → a ≡ b
same_test true b p q = sym (p refl)
same_test false true p q = q refl
same_test false false p q = refl

pub every_same : (n : ℕ) (p q : ℕ → Bool) → ((k : ℕ) → k < n → p k ≡ q k) → every n p ≡ every n q
every_same n p q h =
    same_test _ _
    (λ e. each-every n q (λ k lt. sym (h k lt) ∙ every-each n p e k lt))
    (λ e. each-every n p (λ k lt. h k lt ∙ every-each n q e k lt))

-- the successors are the cells in the ranges of the image
pub successor_in_ranges : (s : List ℕ) → Readable s → (limit : ℕ → ℕ) (b c : ℕ) (low high : List ℕ) (ranges : Ranges)
    → Holds (links_of s) (image_low s limit b c) low → Holds (links_of s) (image_high s limit b c) high
    → RangesOf s low high ranges → (d : ℕ) → is_successor s limit b c d ≡ in_ranges s ranges d
unfolding is_successor in_ranges
successor_in_ranges s R limit b c low high ranges hl hh M d =
    every_same (links_of s) _ _ (λ l lt. rw (← hl l lt, ← hh l lt) (M.meet l _ lt (is_choice s R d l lt)))
