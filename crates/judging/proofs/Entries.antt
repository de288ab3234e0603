-- The tests on one entry decide its plain conditions. Assumes nothing.
use Prim.Native.Nat.{ℕ, ◌≤◌, ◌<◌}
use mathlib.Core.List.{List}
use mathlib.Core.Bool.{Bool, true, false, not, cond, ◌||◌, false≢true}
use mathlib.Core.Path.{◌≡◌, refl}
use mathlib.Core.Logic.{inl, inr}
use native.Mathlib.Omega.{arith}
use borrow.Author.Tests.{leb-true, leb-false, le-leb, ltb-true, lt-ltb, eqb-true, eqb-false, eq-eqb}
use lib.Dec.{eqb, leb, ltb}
use Rattle.certificate.specs.Loops.{every, find}
use Rattle.certificate.specs.Layout.{links_of, safe_of, goal_for, entries_of, cell_of, mode_of, next_mode_of, rank_of}
use Rattle.certificate.specs.Facts.{Readable, PairBelow}
use Rattle.certificate.proofs.Tests.{and_both, both_and}
use Rattle.certificate.proofs.Loops.{every-each, each-every, found, find_least}
use Rattle.grid.specs.Cells.{upper_of}
use Rattle.judging.specs.Lookup.{is_for, entry_for, is_listed}
use Rattle.judging.specs.EntryTests.{is_safe, is_goal, is_ranked, is_lower}
use Rattle.judging.specs.Conditions.{SafeCell, GoalCell, RankFits, Lists, ListedNext, LowerNext}
use Rattle.judging.proofs.Deciding.{Tells}

-- all upper edges of a cell are at most a limit for each link
edges_tell : (s : List ℕ) (c : ℕ) (most : ℕ → ℕ) → Tells (every (links_of s) (λ l. leb (upper_of s c l) (most l))) ((l : ℕ) → l < links_of s → upper_of s c l ≤ most l)
edges_tell s c most = (
  (λ e l lt. leb-true _ _ (every-each (links_of s) (λ k. leb (upper_of s c k) (most k)) e l lt)),
  (λ h. each-every (links_of s) (λ k. leb (upper_of s c k) (most k)) (λ l lt. le-leb _ _ (h l lt))),
)

pub safe_tells : (s : List ℕ) (e : ℕ) → Tells (is_safe s e) (SafeCell s e)
unfolding is_safe
safe_tells s e = edges_tell s (cell_of s e) (safe_of s)

goal_tells : (s : List ℕ) (e : ℕ) → Tells (is_goal s e) (GoalCell s e)
unfolding is_goal
goal_tells s e = edges_tell s (cell_of s e) (goal_for s (mode_of s e))

pub rank_tells : (s : List ℕ) (e : ℕ) → Tells (is_ranked s e) (RankFits s e)
unfolding is_ranked
rank_tells s e = go (eqb (rank_of s e) 0) refl (is_goal s e) (goal_tells s e)
  where
    go : (z : Bool) → eqb (rank_of s e) 0 ≡ z → (g : Bool) → Tells g (GoalCell s e) → Tells (cond z g (not g)) (RankFits s e)
    go true q true t = ((λ _. ((λ _. t.0 refl), (λ _. eqb-true _ _ q))), (λ _. refl))
    go true q false t = ((λ w. absurd (false≢true w)), (λ r. t.1 (r.0 (eqb-true _ _ q))))
    go false q true t = ((λ w. absurd (false≢true w)), (λ r. absurd (eqb-false _ _ q (r.1 (t.0 refl)))))
    go false q false t = ((λ _. ((λ z. absurd (eqb-false _ _ q z)), (λ g. absurd (false≢true (t.1 g))))), (λ _. refl))

-- an entry that has the pair lists it
has_pair : (s : List ℕ) (d m f : ℕ) → f < entries_of s → is_for s d m f ≡ true → Lists s d m f
has_pair s d m f lt e = let h = and_both _ _ e in record { exists = lt; cell = eqb-true _ _ h.0; mode = eqb-true _ _ h.1 }

pair_of : (s : List ℕ) (d m f : ℕ) → Lists s d m f → is_for s d m f ≡ true
pair_of s d m f h = both_and _ _ (eq-eqb _ _ h.cell) (eq-eqb _ _ h.mode)

-- the entry found lists the pair, where any does
pub found_lists : (s : List ℕ) (d m f : ℕ) → Lists s d m f → Lists s d m (entry_for s d m)
unfolding entry_for
found_lists s d m f h =
    let lt : find (entries_of s) (is_for s d m) < entries_of s = omega (arith, find_least (entries_of s) (is_for s d m) f (pair_of s d m f h), h.exists) in
    has_pair s d m _ lt ((found (entries_of s) (is_for s d m)).passes lt)

pub listed_tells : (s : List ℕ) (d m : ℕ) → Tells (is_listed s d m) ((f : ℕ) × Lists s d m f)
unfolding is_listed entry_for
listed_tells s d m = (
  (λ e. let lt : find (entries_of s) (is_for s d m) < entries_of s = ltb-true _ _ e in
      (find (entries_of s) (is_for s d m), has_pair s d m _ lt ((found (entries_of s) (is_for s d m)).passes lt))),
  (λ h. lt-ltb _ _ (found_lists s d m h.0 h.1).exists),
)

-- a pair has one entry, since pairs strictly ascend
not_below : (a b : ℕ) → PairBelow a b a b → ⊥
not_below a b (inl h) = omega arith
not_below a b (inr h) = omega arith

not_later : (s : List ℕ) (d m f g : ℕ) → Readable s → Lists s d m f → Lists s d m g → f < g → ⊥
not_later s d m f g r p q lt = not_below d m (rw (p.cell, p.mode, q.cell, q.mode) at (r.entries_ascend f g lt q.exists))

one_entry_lem : (s : List ℕ) (d m f g : ℕ) → Readable s → Lists s d m f → Lists s d m g → f ≡ g
one_entry_lem s d m f g r p q = go (leb f g) refl (leb g f) refl
  where
    go : (a : Bool) → leb f g ≡ a → (b : Bool) → leb g f ≡ b → f ≡ g
    go true x true y = omega (arith, leb-true f g x, leb-true g f y)
    go true x false y = absurd (not_later s d m f g r p q (leb-false _ _ y))
    go false x b y = absurd (not_later s d m g f r q p (leb-false _ _ x))

pub lower_tells : (s : List ℕ) (e d : ℕ) → Readable s → ListedNext s e d → Tells (is_lower s e (entry_for s d (next_mode_of s e))) (LowerNext s e d)
unfolding is_lower
lower_tells s e d r (f, h) = go (eqb (rank_of s e) 0) refl
  where
    there : Lists s d (next_mode_of s e) (entry_for s d (next_mode_of s e))
    there = found_lists s d (next_mode_of s e) f h

    go : (z : Bool) → eqb (rank_of s e) 0 ≡ z → Tells (z || ltb (rank_of s (entry_for s d (next_mode_of s e))) (rank_of s e)) (LowerNext s e d)
    go true q = ((λ _ g k pos. let z : rank_of s e ≡ 0 = eqb-true _ _ q in absurd (omega arith)), (λ _. refl))
    go false q = (
      (λ w g k pos. let same : g ≡ entry_for s d (next_mode_of s e) = one_entry_lem s d _ _ _ r k there in rw same (ltb-true _ _ w)),
      (λ low. lt-ltb _ _ (low _ there (let z : rank_of s e ≡ 0 → ⊥ = eqb-false _ _ q in omega arith))),
    )
