-- The walk through two tables: what the first entry at or above a pair says of that pair. Assumes nothing.
use Prim.Native.Nat.{ℕ, ◌+◌, ◌<◌}
use mathlib.Core.Bool.{Bool, true, false, ◌&&◌}
use mathlib.Core.List.{List}
use mathlib.Core.Logic.{⊎_elim}
use mathlib.Core.Path.{◌≡◌, refl, ◌∙◌}
use native.Mathlib.Omega.{arith}
use borrow.Author.Count.{below_more}
use borrow.Author.Tests.{ltb-true, ltb-false, eqb-true, eqb-false}
use lib.Dec.{ltb, eqb, leb}
use Rattle.certificate.specs.Layout.{entries_of, cell_of, mode_of, rank_of}
use Rattle.certificate.specs.Facts.{Readable}
use Rattle.judging.specs.Lookup.{entry_for, is_listed}
use Rattle.judging.specs.Conditions.{Lists}
use Rattle.judging.proofs.Deciding.{tells_false}
use Rattle.judging.proofs.Entries.{listed_tells}
use Rattle.runs.proofs.Lookup.{finds_entry}
use Rattle.covering.specs.Covering.{is_matched}
use Rattle.comparing.specs.Walk.{key_of, KeysBelow, AtOrAbove, is_matched_by}

-- one entry more below a key
pub key_more : (s : List ℕ) (e key : ℕ) → KeysBelow s e key → key_of s e < key → KeysBelow s (e + 1) key
key_more s e key below lt = below_more (λ i. key_of s i < key) e below lt

module _ {s : List ℕ} (R : Readable s) where
  mode_small : (e : ℕ) → e < entries_of s → mode_of s e < 256
  mode_small e lt = omega (arith, (R.entry e lt).mode, R.header.modes_most)

  -- keys ascend as pairs do
  pub keys_ascend : (e f : ℕ) → e < f → f < entries_of s → key_of s e < key_of s f
  keys_ascend e f lt last =
      let small = mode_small e (omega arith) in
      ⊎_elim (λ h. omega arith) (λ h. omega arith) (R.entries_ascend e f lt last)

-- a walk that has come to e for one entry of t goes on from there for the next
pub walk_on : (s t : List ℕ) → Readable t → (e f : ℕ) → KeysBelow s e (key_of t f) → f + 1 < entries_of t → KeysBelow s e (key_of t (f + 1))
walk_on s t Q e f below lt i h = let one = below i h in omega (arith, keys_ascend Q f (f + 1) (omega arith) lt)

module _ (s t : List ℕ) (R : Readable s) (Q : Readable t) (f e : ℕ) (lt : f < entries_of t) (A : AtOrAbove s (key_of t f) e) where
  -- the entry that has the pair is that first entry
  only_there : (g : ℕ) → Lists s (cell_of t f) (mode_of t f) g → e ≡ g
  only_there g L =
      let same : key_of s g ≡ key_of t f = rw (L.cell, L.mode) in
      go (ltb g e) refl (ltb e g) refl same
    where
      go : (a : Bool) → ltb g e ≡ a → (b : Bool) → ltb e g ≡ b → key_of s g ≡ key_of t f → e ≡ g
      go true x b y same = let low = A.before g (ltb-true _ _ x) in absurd (omega arith)
      go false x true y same =
          let before : e < g = ltb-true _ _ y in
          let high = A.here (omega (arith, L.exists)) in
          absurd (omega (arith, keys_ascend R e g before L.exists))
      go false x false y same = let p = ltb-false g e x in let q = ltb-false e g y in omega arith

  found_there : e < entries_of s → key_of s e ≡ key_of t f → entry_for s (cell_of t f) (mode_of t f) ≡ e
  found_there h k =
      let low = mode_small R e h in
      let high = mode_small Q f lt in
      finds_entry s R (cell_of t f) (mode_of t f) e h (omega arith) (omega arith)

  not_there : (e < entries_of s → key_of s e ≡ key_of t f → ⊥) → is_listed s (cell_of t f) (mode_of t f) ≡ false
  not_there bad =
      tells_false _ (listed_tells s (cell_of t f) (mode_of t f))
      (λ (g, L). let same = only_there g L in bad (omega (arith, L.exists)) (rw (same, L.cell, L.mode)))

  -- so it alone tells whether entry f is matched
  there_or_nowhere : is_matched_by s t e f ≡ is_matched s t f
  unfolding is_matched_by
  there_or_nowhere = go (ltb e (entries_of s)) refl (eqb (key_of s e) (key_of t f)) refl
    where
      go : (a : Bool) → ltb e (entries_of s) ≡ a → (b : Bool) → eqb (key_of s e) (key_of t f) ≡ b
          → ((a && b) && leb (rank_of s e) (rank_of t f)) ≡ is_matched s t f
      go true x true y =
          let there = found_there (ltb-true _ _ x) (eqb-true _ _ y) in
          unfold is_matched is_listed in rw (there, x)
      go true x false y = unfold is_matched in rw (not_there (λ h k. eqb-false _ _ y k))
      go false x b y = let far = ltb-false e (entries_of s) x in unfold is_matched in rw (not_there (λ h k. omega arith))

  pub matched_there : {r : Bool} → r ≡ is_matched_by s t e f → r ≡ is_matched s t f
  matched_there is = is ∙ there_or_nowhere
