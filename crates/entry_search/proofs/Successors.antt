-- The refusal of one successor, and the code's tests for it. Assumes nothing.
use Prim.Native.Nat.{ℕ, ◌+◌, ◌≤◌, ◌<◌}
use mathlib.Core.List.{List}
use mathlib.Core.Bool.{Bool, true, false, not, ◌&&◌, ◌||◌}
use mathlib.Core.Path.{◌≡◌, refl, sym, ap, ◌∙◌}
use native.Mathlib.Omega.{arith}
use borrow.Author.Tests.{lt-ltb, le-ltb, le-leb, lt-leb, leb-true, leb-false, eqb-true, eqb-false}
use lib.Dec.{eqb, leb, ltb}
use Rattle.certificate.specs.Loops.{pick}
use Rattle.certificate.specs.Checks.{report_with, fine, need}
use Rattle.certificate.specs.Layout.{next_mode_of, rank_of}
use Rattle.certificate.proofs.Tests.{need_pass, need_fail}
use Rattle.judging.specs.Lookup.{entry_for, is_listed}
use Rattle.rank_tables.specs.Index.{rank_at}
use Rattle.judging.specs.EntryTests.{is_lower, successor_fault}
use Rattle.entry_setup.specs.declared.entry.Entry.{Entry}
use Rattle.entry_setup.specs.Bytes.{bytes_of}
use Rattle.entry_setup.specs.Tables.{bound_for}
use Rattle.entry_search.specs.Search.{passes}

-- a rank r is lower than the rank of the entry judged, or that is 0; the table has r + 1
by_ranks : (rank r : ℕ) → (eqb rank 0 || ltb r rank) ≡ (eqb rank 0 || leb (r + 1) rank)
by_ranks rank r = ap (λ b. eqb rank 0 || b) (go (leb (r + 1) rank) refl)
  where
    go : (q : Bool) → leb (r + 1) rank ≡ q → ltb r rank ≡ q
    go true e = lt-ltb r rank (omega (arith, leb-true (r + 1) rank e))
    go false e = le-ltb r rank (omega (arith, leb-false (r + 1) rank e))

-- the code compares with a bound that any number of 32 bits meets where the rank is 0
by_bound : (rank v : ℕ) → v ≤ 4294967295 → leb v (bound_for rank) ≡ (eqb rank 0 || leb v rank)
unfolding bound_for
by_bound rank v most = go (eqb rank 0)
  where
    go : (z : Bool) → leb v (pick z 4294967295 rank) ≡ (z || leb v rank)
    go true = le-leb v 4294967295 most
    go false = refl

lower_is : (s : List ℕ) (e f rank bound v : ℕ) → rank ≡ rank_of s e → bound ≡ bound_for rank → v ≡ rank_of s f + 1 → v ≤ 4294967295 → is_lower s e f ≡ leb v bound
unfolding is_lower
lower_is s e f rank bound v p q r most = rw (q, p) (by_ranks (rank_of s e) (rank_of s f) ∙ rw (← r) (sym (by_bound (rank_of s e) v most)))

-- a slot of the table of ranks is 0 exactly where the pair is not listed
slot_empty : (b : Bool) (r v : ℕ) → v ≡ pick b (r + 1) 0 → v ≡ 0 → b ≡ false
slot_empty true r v e z = absurd (omega arith)
slot_empty false r v e z = refl

slot_full : (b : Bool) (r v : ℕ) → v ≡ pick b (r + 1) 0 → (v ≡ 0 → ⊥) → (b ≡ true) × (v ≡ r + 1)
slot_full true r v e z = (refl, e)
slot_full false r v e z = absurd (z e)

-- successor d is looked up: v is what the table of ranks has for it and the next mode
module _ (entry : Entry) (d v : ℕ) (slot : v ≡ rank_at (bytes_of entry.tables.now) d (next_mode_of (bytes_of entry.tables.now) entry.number)) (most : v ≤ 4294967295) where
  abbrev s : List ℕ
  s = bytes_of entry.tables.now

  abbrev e : ℕ
  e = entry.number

  pub is_unlisted : v ≡ 0 → (n : ℕ) → report_with 14 e d n ≡ successor_fault s e d n
  unfolding successor_fault rank_at
  is_unlisted z n = sym (need_fail _ _ _ (slot_empty _ _ v slot z))

  module _ (there : v ≡ 0 → ⊥) where
    full : (is_listed s d (next_mode_of s e) ≡ true) × (v ≡ rank_of s (entry_for s d (next_mode_of s e)) + 1)
    unfolding rank_at
    full = slot_full _ _ v slot there

    lower : is_lower s e (entry_for s d (next_mode_of s e)) ≡ leb v entry.bound
    lower = lower_is s e _ _ _ v entry.found.rank_is entry.found.bound_is full.1 most

    pub is_higher : entry.bound < v → (n : ℕ) → report_with 15 e d n ≡ successor_fault s e d n
    unfolding successor_fault
    is_higher h n = rw (need_pass _ _ _ full.0, need_fail _ _ _ (lower ∙ lt-leb v entry.bound h))

    pub is_met : v ≤ entry.bound → (n : ℕ) → fine ≡ successor_fault s e d n
    unfolding successor_fault
    is_met h n = rw (need_pass _ _ _ full.0, need_pass _ _ _ (lower ∙ le-leb v entry.bound h))

  pub passes_is : (not (eqb v 0) && leb v entry.bound) ≡ passes s e d
  unfolding passes
  passes_is = go (eqb v 0) (leb v entry.bound) refl refl
    where
      go : (p q : Bool) → eqb v 0 ≡ p → leb v entry.bound ≡ q → (not p && q) ≡ eqb (successor_fault s e d 0).number 0
      go true q z h = rw (← is_unlisted (eqb-true v 0 z) 0)
      go false true z h = rw (← is_met (eqb-false v 0 z) (leb-true v entry.bound h) 0)
      go false false z h = rw (← is_higher (eqb-false v 0 z) (leb-false v entry.bound h) 0)

-- a successor that passes is not refused, whatever the count
pub passes_fine : (s : List ℕ) (e d : ℕ) → passes s e d ≡ true → (n : ℕ) → fine ≡ successor_fault s e d n
unfolding passes successor_fault need
passes_fine s e d h n = go (is_listed s d (next_mode_of s e)) (is_lower s e (entry_for s d (next_mode_of s e))) h
  where
    go : (p q : Bool) → eqb (need p (report_with 14 e d 0) (need q (report_with 15 e d 0) fine)).number 0 ≡ true → fine ≡ need p (report_with 14 e d n) (need q (report_with 15 e d n) fine)
    go true true z = refl
    go true false z = cc
    go false q z = cc
