-- How a record opens, in plain terms: its mark is not there, is another, the record is not whole, or it opens. Assumes nothing.
use Prim.Native.Nat.{ℕ, ◌+◌, ◌≤◌}
use mathlib.Core.List.{List}
use mathlib.Core.Bool.{Bool, true, false, false≢true}
use mathlib.Core.Path.{◌≡◌, refl, sym, ◌∙◌}
use mathlib.Core.Logic.{◌↔◌}
use borrow.Author.Tests.{leb-true, le-leb}
use lib.ListN.{length}
use lib.Dec.{leb}
use Rattle.certificate.specs.declared.Report.{Report}
use Rattle.certificate.specs.Checks.{refusal, fine, need, marked, opened}
use Rattle.certificate.specs.Facts.{Mark}
use Rattle.certificate.proofs.Says.{marked_says}

-- r is what a record of that size at o answers as it opens, where M says that its mark is right
pub data Opening (s : List ℕ) (o : ℕ) (M : Type 0) (size : ℕ) (r : Report) : Type 0 where
  absent : (o + 2 ≤ length s → ⊥) → r ≡ refusal 1 o → Opening s o M size r
  wrong : o + 2 ≤ length s → (M → ⊥) → r ≡ refusal 2 o → Opening s o M size r
  short : M → (o + size ≤ length s → ⊥) → r ≡ refusal 1 o → Opening s o M size r
  opens : M → o + size ≤ length s → r ≡ fine → Opening s o M size r

-- a test that failed did not say
pub fails : {A : Type 0} {b : Bool} → (A → b ≡ true) → b ≡ false → A → ⊥
fails f e a = false≢true (sym e ∙ f a)

pub opening : (s : List ℕ) (o size : ℕ) (mark : Bool) {M : Type 0} → (mark ≡ true) ↔ M → Opening s o M size (opened s o mark size)
unfolding opened need
opening s o size mark {M} says = go (leb (o + 2) (length s)) refl mark refl (leb (o + size) (length s)) refl
  where
    go : (p : Bool) → leb (o + 2) (length s) ≡ p → (q : Bool) → mark ≡ q → (w : Bool) → leb (o + size) (length s) ≡ w
        → Opening s o M size (need p (refusal 1 o) (need q (refusal 2 o) (need w (refusal 1 o) fine)))
    go false p q e w z = absent (fails (le-leb _ _) p) refl
    go true p false q w z = wrong (leb-true _ _ p) (fails says.1 q) refl
    go true p true q false w = short (says.0 q) (fails (le-leb _ _) w) refl
    go true p true q true w = opens (says.0 q) (leb-true _ _ w) refl

-- a record of one mark
pub marked_opening : (s : List ℕ) (o m k size : ℕ) → Opening s o (Mark s o m k) size (opened s o (marked s o m k) size)
marked_opening s o m k size = opening s o size (marked s o m k) (marked_says s o m k)
