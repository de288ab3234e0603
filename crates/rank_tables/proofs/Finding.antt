-- Scanning for the first index that passes a test, and the entries of a cell between two elements of the index. Assumes nothing.
use Prim.Native.Nat.{ℕ, ◌+◌, ◌≤◌, ◌<◌}
use mathlib.Core.List.{List}
use mathlib.Core.Bool.{Bool, true, false, false≢true}
use mathlib.Core.Path.{◌≡◌, refl, sym, ◌∙◌}
use mathlib.Core.Logic.{⊎_elim, inl, inr}
use native.Mathlib.Nat.{eq-or-lt_of_le}
use native.Mathlib.Omega.{arith}
use borrow.Author.Tests.{leb-true, leb-false, le-leb, lt-leb, eqb-true, eq-eqb}
use lib.Dec.{leb}
use Rattle.certificate.specs.Loops.{find}
use Rattle.certificate.specs.Layout.{entries_of, cell_of, mode_of}
use Rattle.certificate.specs.Facts.{Readable, PairBelow}
use Rattle.certificate.proofs.Loops.{found, find_least}
use Rattle.certificate.proofs.Tests.{and_both, both_and}
use Rattle.judging.specs.Lookup.{is_for, entry_for}
use Rattle.rank_tables.specs.Index.{entry_from, CellsAscend}
use Rattle.reading.proofs.Whole.{reads}
use Rattle.reading.specs.declared.Certificate.{Certificate}

-- a scan that has come to i without passing the first index: that is i, or lies beyond it
module _ (n : ℕ) (p : ℕ → Bool) (i : ℕ) (before : i ≤ find n p) where
  here : p i ≡ true → i ≡ find n p
  here e = omega (arith, find_least n p i e)

  beyond : i < n → p i ≡ false → i + 1 ≤ find n p
  beyond lt e =
      ⊎_elim
      (λ (q : i ≡ find n p). absurd (false≢true (sym e ∙ rw q ((found n p).passes (rw q at lt)))))
      (λ l. omega arith)
      (eq-or-lt_of_le before)

  nowhere : n ≤ i → i ≡ find n p
  nowhere le = omega (arith, (found n p).most)

-- pairs (cell, mode) ascend, and so do the cells
pub cells_ascend : (s : List ℕ) → Readable s → CellsAscend s
cells_ascend s r e f le lt = ⊎_elim (λ (q : e ≡ f). rw q (omega arith)) (λ l. below (r.entries_ascend e f l lt)) (eq-or-lt_of_le le)
  where
    below : {a b c d : ℕ} → PairBelow a b c d → a ≤ c
    below (inl h) = omega arith
    below (inr h) = omega arith

pub ascends : (c : Certificate) → CellsAscend c.bytes.now
ascends c = cells_ascend c.bytes.now (reads c)

-- the first entry at or above cell d: found at e, beyond e, or nowhere
module _ (s : List ℕ) (d : ℕ) where
  pub from_here : (e : ℕ) → e ≤ entry_from s d → d ≤ cell_of s e → e ≡ entry_from s d
  unfolding entry_from
  from_here e le h = here _ _ e le (le-leb _ _ h)

  pub from_beyond : (e : ℕ) → e ≤ entry_from s d → e < entries_of s → cell_of s e < d → e + 1 ≤ entry_from s d
  unfolding entry_from
  from_beyond e le lt h = beyond _ _ e le lt (lt-leb _ _ h)

  pub from_nowhere : (e : ℕ) → e ≤ entry_from s d → entries_of s ≤ e → e ≡ entry_from s d
  unfolding entry_from
  from_nowhere e le h = nowhere _ _ e le h

  pub from_most : entry_from s d ≤ entries_of s
  unfolding entry_from
  from_most = (found _ _).most

  -- entries before it have cells below d, it and those after it have not
  pub from_before : (e : ℕ) → e < entry_from s d → cell_of s e < d
  unfolding entry_from
  from_before e lt = leb-false _ _ ((found _ _).before e (omega arith) lt)

  from_at : entry_from s d < entries_of s → d ≤ cell_of s (entry_from s d)
  unfolding entry_from
  from_at lt = leb-true _ _ ((found (entries_of s) (λ e. leb d (cell_of s e))).passes lt)

  pub from_after : CellsAscend s → (e : ℕ) → entry_from s d ≤ e → e < entries_of s → d ≤ cell_of s e
  from_after ascend e le lt = omega (arith, from_at (omega arith), ascend (entry_from s d) e le lt)

-- a later cell's first entry is no earlier
pub from_grows : (s : List ℕ) (d : ℕ) → entry_from s d ≤ entry_from s (d + 1)
from_grows s d = go (leb (entry_from s d) (entry_from s (d + 1))) refl
  where
    go : (b : Bool) → leb (entry_from s d) (entry_from s (d + 1)) ≡ b → entry_from s d ≤ entry_from s (d + 1)
    go true e = leb-true _ _ e
    go false e =
        let lt : entry_from s (d + 1) < entry_from s d = leb-false _ _ e in
        absurd (omega (arith, from_before s d (entry_from s (d + 1)) lt, from_at s (d + 1) (omega (arith, from_most s d))))

-- the entry of cell d and mode m lies between the first entries of d and of the next cell, or nowhere
module _ (s : List ℕ) (d m : ℕ) where
  for_pair : entry_for s d m < entries_of s → (cell_of s (entry_for s d m) ≡ d) × (mode_of s (entry_for s d m) ≡ m)
  unfolding entry_for
  for_pair lt = let h = and_both _ _ ((found (entries_of s) (is_for s d m)).passes lt) in (eqb-true _ _ h.0, eqb-true _ _ h.1)

  pub for_most : entry_for s d m ≤ entries_of s
  unfolding entry_for
  for_most = (found _ _).most

  pub for_least : entry_from s d ≤ entry_for s d m
  for_least = go (leb (entry_from s d) (entry_for s d m)) refl
    where
      go : (b : Bool) → leb (entry_from s d) (entry_for s d m) ≡ b → entry_from s d ≤ entry_for s d m
      go true e = leb-true _ _ e
      go false e =
          let lt : entry_for s d m < entry_from s d = leb-false _ _ e in
          let same : cell_of s (entry_for s d m) ≡ d = (for_pair (omega (arith, from_most s d))).0 in
          absurd (omega (arith, from_before s d (entry_for s d m) lt))

  -- a scan between the first entries of cell d and of the next one, that has come to e
  pub between_here : CellsAscend s → (end e r : ℕ) → end ≡ entry_from s (d + 1) → entry_from s d ≤ e → e < end → e ≤ entry_for s d m
      → r ≡ mode_of s e → r ≡ m → e ≡ entry_for s d m
  unfolding entry_for
  between_here ascend end e r w ge lt le p q =
      let below : e < entry_from s (d + 1) = omega arith in
      let cell : cell_of s e ≡ d = omega (arith, from_before s (d + 1) e below, from_after s d ascend e ge (omega (arith, from_most s (d + 1)))) in
      here _ _ e le (both_and _ _ (eq-eqb _ _ cell) (eq-eqb _ _ (sym p ∙ q)))

  pub between_beyond : (end e r : ℕ) → end ≡ entry_from s (d + 1) → e < end → e ≤ entry_for s d m
      → r ≡ mode_of s e → (r ≡ m → ⊥) → e + 1 ≤ entry_for s d m
  between_beyond end e r w lt le p no_mode =
      ⊎_elim
      (λ (q : e ≡ entry_for s d m). absurd (no_mode (p ∙ rw q (for_pair (omega (arith, from_most s (d + 1)))).1)))
      (λ l. omega arith)
      (eq-or-lt_of_le le)

  pub between_end : CellsAscend s → (end e : ℕ) → end ≡ entry_from s (d + 1) → end ≤ e → e ≤ entry_for s d m → entries_of s ≡ entry_for s d m
  between_end ascend end e w ge le = go (leb (entries_of s) (entry_for s d m)) refl
    where
      go : (b : Bool) → leb (entries_of s) (entry_for s d m) ≡ b → entries_of s ≡ entry_for s d m
      go true q = omega (arith, leb-true (entries_of s) (entry_for s d m) q, for_most)
      go false q =
          let lt : entry_for s d m < entries_of s = leb-false _ _ q in
          let same : cell_of s (entry_for s d m) ≡ d = (for_pair lt).0 in
          absurd (omega (arith, from_after s (d + 1) ascend (entry_for s d m) (omega arith) lt))
