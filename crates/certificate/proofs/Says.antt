-- What each test says, as an equivalence: the set `says` turns a chain of tests into the facts that it tests. Assumes nothing.
use Prim.Native.Nat.{ℕ, ◌+◌, ◌≤◌, ◌<◌}
use mathlib.Core.Bool.{Bool, true, false, not, ◌&&◌}
use mathlib.Core.List.{List}
use mathlib.Core.Path.{◌≡◌, refl}
use mathlib.Core.Logic.{◌↔◌}
use native.Mathlib.Omega.{arith}
use borrow.Author.Tests.{ltb-true, leb-true, eqb-true, eqb-false, not-true, lt-ltb, le-leb, eq-eqb, ne_eqb}
use lib.ListN.{length}
use lib.Dec.{ltb, leb, eqb}
use Rattle.certificate.specs.declared.Report.{Report}
use Rattle.certificate.specs.Octets.{◌also◌}
use Rattle.certificate.specs.Checks.{refusal, fine, need, or_else, first_bad, marked, opened}
use Rattle.certificate.specs.Facts.{Mark}
use Rattle.certificate.proofs.Tests.{and_both, both_and, also_both, both_also, need_both, need_pass, or_both, both_or, all_fine, fine_all}

pub leb_says : (a b : ℕ) → (leb a b ≡ true) ↔ (a ≤ b)
leb_says a b = (leb-true a b, le-leb a b)

pub ltb_says : (a b : ℕ) → (ltb a b ≡ true) ↔ (a < b)
ltb_says a b = (ltb-true a b, lt-ltb a b)

pub eqb_says : (a b : ℕ) → (eqb a b ≡ true) ↔ (a ≡ b)
eqb_says a b = (eqb-true a b, eq-eqb a b)

pub differ_says : (a b : ℕ) → (not (eqb a b) ≡ true) ↔ (a ≡ b → ⊥)
differ_says a b = (λ e. eqb-false a b (not-true _ e), λ h. rw (ne_eqb a b h))

pub and_says : (a b : Bool) → ((a && b) ≡ true) ↔ ((a ≡ true) × (b ≡ true))
and_says a b = (and_both a b, λ h. both_and a b h.0 h.1)

pub also_says : (a b : Bool) → ((a also b) ≡ true) ↔ ((a ≡ true) × (b ≡ true))
also_says a b = (also_both a b, λ h. both_also a b h.0 h.1)

pub need_says : (b : Bool) (n o : ℕ) (next : Report) → eqb n 0 ≡ false → ((need b (refusal n o) next).number ≡ 0) ↔ ((b ≡ true) × (next.number ≡ 0))
need_says b n o next z = (need_both b _ next (eqb-false n 0 z), λ h. rw (need_pass b (refusal n o) next h.0) h.1)

pub or_says : (f g : Report) → ((or_else f g).number ≡ 0) ↔ ((f.number ≡ 0) × (g.number ≡ 0))
or_says f g = (or_both f g, λ h. both_or f g h.0 h.1)

pub first_says : (n : ℕ) (f : ℕ → Report) → ((first_bad n f).number ≡ 0) ↔ ((k : ℕ) → k < n → (f k).number ≡ 0)
first_says n f = (all_fine n f, λ h. rw (fine_all n f h))

-- tests of bytes and numbers, and how tests follow one another
pub ruleset tests-say = (leb_says, ltb_says, eqb_says, differ_says, and_says, also_says, need_says, or_says, first_says)

pub marked_says : (s : List ℕ) (o m k : ℕ) → (marked s o m k ≡ true) ↔ Mark s o m k
unfolding marked
marked_says s o m k = simp tests-say (omega arith)

-- a record that opens is there whole, and bears its mark
pub opened_says : (s : List ℕ) (o : ℕ) (mark : Bool) (size : ℕ) → leb 2 size ≡ true → ((opened s o mark size).number ≡ 0) ↔ ((o + size ≤ length s) × (mark ≡ true))
unfolding opened
opened_says s o mark size z =
    let h : 2 ≤ size = leb-true _ _ z in
    simp tests-say (λ p. (p.1.1.0, p.1.0), λ p. (omega arith, (p.1, (p.0, refl))))

pub opened-fine : (s : List ℕ) (o : ℕ) (mark : Bool) (size : ℕ) → 2 ≤ size → o + size ≤ length s → mark ≡ true → opened s o mark size ≡ fine
unfolding opened
opened-fine s o mark size two whole yes' =
    rw (le-leb (o + 2) (length s) (omega arith), yes', le-leb (o + size) (length s) whole, need_pass true (refusal 1 o) (need true (refusal 2 o) (need true (refusal 1 o) fine)) refl, need_pass true (refusal 2 o) (need true (refusal 1 o) fine) refl, need_pass true (refusal 1 o) fine refl)

pub ruleset says = (tests-say, marked_says, opened_says)
