-- The search of one box: its ranges, and its runs looked up as a whole. Assumes nothing.
use Prim.Native.Nat.{ℕ, ◌+◌, ◌-◌, ◌*◌, ◌≤◌, ◌<◌}
use mathlib.Core.List.{List}
use mathlib.Core.Bool.{Bool, true, false, cond}
use mathlib.Core.Path.{◌≡◌, refl, sym, ap, ◌∙◌}
use native.Mathlib.Nat.{mul-one}
use native.Mathlib.Omega.{arith}
use mir.Val.{bool_byte}
use Rattle.octets.proofs.Picking.{byte_picks}
use lib.ListN.{length, get_or, take}
use Rattle.std.proofs.lemmas.List.{get_or-take, length-take-le}
use Rattle.certificate.specs.declared.Report.{Report}
use Rattle.certificate.specs.Loops.{pick, sum_to}
use Rattle.certificate.specs.Checks.{fine, or_else}
use Rattle.certificate.specs.Layout.{cells_of, cell_of}
use Rattle.certificate.proofs.Tests.{or_next}
use Rattle.certificate.proofs.Loops.{sum_same, sum_next, sum_swap, sum_most, sum_full}
use Rattle.network.specs.Network.{entry_limit}
use Rattle.images.specs.declared.ends.Ends.{Ends}
use Rattle.reading.specs.declared.Certificate.{Certificate}
use Rattle.reading.proofs.Whole.{reads}
use Rattle.successors.specs.declared.ranges.Ranges.{Ranges}
use Rattle.successors.specs.Ranges.{RangesOf, RunsOf, in_ranges, how_many}
use Rattle.successors.proofs.Ranging.{successor_in_ranges}
use Rattle.judging.specs.EntryTests.{follows, successor_fault, count_after, look_fault, cell_round, box_round, accepted}
use Rattle.judging.proofs.Looping.{Passes, loop_passes}
use Rattle.entry_search.specs.Search.{EntryImage, BoxRanges, RunsFit, box_alone, passes, run_passing, column_passing, runs_passing}
use Rattle.entry_search.proofs.Successors.{passes_fine}

-- the ranges that meet an entry's image have its successors
pub ranges_are : (certificate : Certificate) (e b : ℕ) (image : Ends) (over : List Bool) (ranges : Ranges) → EntryImage certificate.bytes.now e b image over
    → RangesOf certificate.bytes.now image.low image.high ranges → BoxRanges certificate.bytes.now e b ranges
unfolding follows
ranges_are certificate e b image over ranges I R =
    let s = certificate.bytes.now in
    record {
      bounded = R.bounded;
      same = successor_in_ranges s (reads certificate) (entry_limit s e) b (cell_of s e) image.low image.high ranges I.low_is I.high_is R;
    }

one_most : (b : Bool) → pick b 1 0 ≤ 1
one_most true = omega arith
one_most false = omega arith

one_is : (b : Bool) → pick b 1 0 ≡ 1 → b ≡ true
one_is true e = refl
one_is false e = absurd (omega arith)

-- not more pass than there are, and where it is all of them, each does
pub many_most : (n : ℕ) (p : ℕ → Bool) → how_many n p ≤ n
many_most n p = omega (arith, sum_most 1 (λ k. pick (p k) 1 0) n (λ k lt. one_most (p k)), mul-one n)

many_all : (n : ℕ) (p : ℕ → Bool) → how_many n p ≡ n → (i : ℕ) → i < n → p i ≡ true
many_all n p e i lt = one_is (p i) (sum_full 1 (λ k. pick (p k) 1 0) n (λ k below. one_most (p k)) (e ∙ sym (mul-one n)) i lt)

-- a sum in a loop: none yet, and one more
pub sum_begins : (f : ℕ → ℕ) → 0 ≡ sum_to 0 f
unfolding sum_to
sum_begins f = refl

pub sum_more : (n r one : ℕ) (f : ℕ → ℕ) → r ≡ sum_to n f → one ≡ f n → r + one ≡ sum_to (n + 1) f
sum_more n r one f e is = rw (e, is) (sym (sum_next n f))

-- one more index of which the test says q
pub many_more : (n r one : ℕ) (q : Bool) (p : ℕ → Bool) → r ≡ how_many n p → q ≡ p n → one ≡ bool_byte q → r + one ≡ how_many (n + 1) p
many_more n r one q p e is w = sum_more n r one (λ k. pick (p k) 1 0) e (w ∙ byte_picks q ∙ rw is)

-- the cells of runs that pass, counted run by run: not more than there are, and where it is all of them, each does
module _ (s : List ℕ) (e : ℕ) (runs : List ℕ) (size : ℕ) where
  run_most : (i : ℕ) → run_passing s e (get_or runs i 0) size ≤ size
  run_most i = many_most size (λ j. passes s e (get_or runs i 0 + j))

  pub runs_most : (n : ℕ) → sum_to n (λ i. run_passing s e (get_or runs i 0) size) ≤ n * size
  runs_most n = sum_most size (λ i. run_passing s e (get_or runs i 0) size) n (λ i lt. run_most i)

  runs_all : runs_passing s e runs size ≡ length runs * size → (i j : ℕ) → i < length runs → j < size → passes s e (get_or runs i 0 + j) ≡ true
  runs_all all i j lt below =
      many_all size (λ j. passes s e (get_or runs i 0 + j)) (sum_full size (λ i. run_passing s e (get_or runs i 0) size) (length runs) (λ i lt. run_most i) all i lt) j below

  -- so are those of the first k columns
  pub columns_most : (k : ℕ) → sum_to k (column_passing s e runs) ≤ k * length runs
  columns_most k = sum_most (length runs) (column_passing s e runs) k (λ j lt. many_most (length runs) (λ i. passes s e (get_or runs i 0 + j)))

  -- and all columns have as many
  pub by_columns : sum_to size (column_passing s e runs) ≡ runs_passing s e runs size
  by_columns = sym (sum_swap (length runs) size (λ i j. pick (passes s e (get_or runs i 0 + j)) 1 0))

-- where every successor under a box passes, all are counted
module _ (s : List ℕ) (e b : ℕ) (pass : (c : ℕ) → c < cells_of s → follows s e b c ≡ true → passes s e c ≡ true) where
  cell_passes : (c : ℕ) → c < cells_of s → Passes (cell_round s e b) c (pick (follows s e b c) 1 0)
  unfolding cell_round look_fault count_after
  cell_passes c lt n next = go (follows s e b c) refl
    where
      go : (f : Bool) → follows s e b c ≡ f → or_else (cond f (successor_fault s e c (n + 1)) fine) (next (cond f (n + 1) n)) ≡ next (n + pick f 1 0)
      go true f = or_next _ _ (sym (ap (λ (r : Report). r.number) (passes_fine s e c (pass c lt f) (n + 1))))
      go false f = let z : n + 0 ≡ n = omega arith in or_next fine (next n) refl ∙ rw z

  all_counted : (n : ℕ) → box_alone s e b n ≡ accepted (n + how_many (cells_of s) (follows s e b))
  unfolding box_alone box_round
  all_counted n = loop_passes (cell_round s e b) (λ c. pick (follows s e b c) 1 0) (cells_of s) cell_passes n accepted

-- the runs of a box have no more cells than there are
pub cells_most_of : (certificate : Certificate) (ranges : Ranges) (starts : List ℕ) (n size : ℕ) → RunsOf certificate.bytes.now ranges starts n size → n * size ≤ 4096
cells_most_of certificate ranges starts n size A =
    omega (arith, A.number, many_most (cells_of certificate.bytes.now) (in_ranges certificate.bytes.now ranges), certificate.laid.cells_are, certificate.laid.cells_most)

-- the runs of a box, which are the first n of the list
module _ (certificate : Certificate) (e : ℕ) (ranges : Ranges) (starts : List ℕ) (n size : ℕ) (few : n ≤ length starts) (A : RunsOf certificate.bytes.now ranges starts n size) where
  abbrev s : List ℕ
  s = certificate.bytes.now

  listed : length (take n starts) ≡ n
  listed = length-take-le n starts few

  pub runs_fit : RunsFit (take n starts) size (cells_of s)
  runs_fit =
      record {
        list_most = omega (arith, listed, A.most);
        most = rw listed (cells_most_of certificate ranges starts n size A);
        fits = λ i lt. rw (get_or-take n starts i 0 (rw listed at lt)) (A.fits i (rw listed at lt));
      }

  -- where each of their cells passes, so does every successor, and they are as many
  module _ (passed : ℕ) (is : passed ≡ runs_passing s e (take n starts) size) (all : passed ≡ n * size) (b : ℕ) (B : BoxRanges s e b ranges) where
    pass : (c : ℕ) → c < cells_of s → follows s e b c ≡ true → passes s e c ≡ true
    pass c lt f =
        let x = A.all c lt (sym (B.same c) ∙ f) in
        let j : get_or starts x.0 0 + (c - get_or starts x.0 0) ≡ c = omega (arith, x.2) in
        rw (get_or-take n starts x.0 0 x.1, j) at (runs_all s e (take n starts) size (sym is ∙ all ∙ rw listed) x.0 (c - get_or starts x.0 0) (rw listed x.1) (omega (arith, x.2, x.3)))

    same_many : passed ≡ how_many (cells_of s) (follows s e b)
    same_many = all ∙ A.number ∙ sum_same (cells_of s) _ _ (λ c lt. rw (B.same c))

    pub box_passes : (m : ℕ) → box_alone s e b m ≡ accepted (m + passed)
    box_passes m = rw same_many (all_counted s e b pass m)
