-- How the code's tests go by cases, in the form in which a proof has the facts; a loop of tests, turn by turn. Assumes nothing.
use Prim.Native.Nat.{ℕ, ◌+◌, ◌≤◌, ◌<◌}
use mathlib.Core.Bool.{Bool, true, false, not}
use mathlib.Core.List.{List}
use mathlib.Core.Path.{◌≡◌, sym, ◌∙◌}
use mathlib.Core.Logic.{⊎_elim}
use borrow.Author.Tests.{lt-ltb, le-ltb, le-leb, lt-leb, eq-eqb, ne_eqb, not-true, not-false}
use lib.ListN.{length}
use Rattle.certificate.specs.declared.Report.{Report}
use Rattle.certificate.specs.Loops.{every_from}
use Rattle.certificate.specs.Checks.{need, or_else, opened}
use Rattle.certificate.proofs.Says.{opened_says}
use Rattle.certificate.proofs.Loops.{every_turn, every_end}
use Rattle.certificate.proofs.Tests.{need_pass, need_fail, or_next, or_stop, passes}

-- a test's outcome that has a name, r
pub by_yes : (r b : Bool) → r ≡ b → r ≡ true → b ≡ true
by_yes r b p q = sym p ∙ q

pub by_no : (r b : Bool) → r ≡ b → r ≡ false → b ≡ false
by_no r b p q = sym p ∙ q

-- the same of `if !r`
pub not_yes : (r b : Bool) → r ≡ b → not r ≡ true → b ≡ false
not_yes r b p q = sym p ∙ not-true r q

pub not_no : (r b : Bool) → r ≡ b → not r ≡ false → b ≡ true
not_no r b p q = sym p ∙ not-false r q

-- a report of a refusal that a call made, and what follows a test that passes
pub pass : (b : Bool) (bad next r : Report) → b ≡ true → r ≡ next → r ≡ need b bad next
pass b bad next r e p = p ∙ sym (need_pass b bad next e)

pub fail : (b : Bool) (bad next r : Report) → b ≡ false → r ≡ bad → r ≡ need b bad next
fail b bad next r e p = p ∙ sym (need_fail b bad next e)

pub first : (f g h : Report) → f ≡ g → (f.number ≡ 0 → ⊥) → f ≡ or_else g h
first f g h e n = e ∙ sym (or_stop g h (λ z. n (rw e z)))

pub second : (f g h r : Report) → f ≡ g → f.number ≡ 0 → r ≡ h → r ≡ or_else g h
second f g h r e n p = p ∙ sym (or_next g h (rw (← e) n))

pub ruleset cases = (lt-ltb, le-ltb, le-leb, lt-leb, eq-eqb, ne_eqb, by_yes, by_no, not_yes, not_no, pass, fail, first, second)

-- a record whose opening passes is there whole
pub opened-whole : (s : List ℕ) (o : ℕ) (mark : Bool) (size : ℕ) {f : Report} → 2 ≤ size → f ≡ opened s o mark size → f.number ≡ 0 → o + size ≤ length s
opened-whole s o mark size two e z = ((opened_says s o mark size (le-leb 2 size two)).0 (rw (← e) z)).0

-- a loop of tests that asks whether all pass: go on, stop, end
pub all_on : (n i : ℕ) (p : ℕ → Bool) (v t : Bool) → i < n → v ≡ p i → v ≡ true → every_from n p i ≡ t → every_from n p (i + 1) ≡ t
all_on n i p v t h e y q = sym (every_turn n i p h ∙ rw (sym e ∙ y)) ∙ q

pub all_stop : (n i : ℕ) (p : ℕ → Bool) (v t : Bool) → i < n → v ≡ p i → v ≡ false → every_from n p i ≡ t → false ≡ t
all_stop n i p v t h e y q = sym (every_turn n i p h ∙ rw (sym e ∙ y)) ∙ q

pub all_end : (n i : ℕ) (p : ℕ → Bool) (t : Bool) → n ≤ i → every_from n p i ≡ t → true ≡ t
all_end n i p t h q = sym (every_end n i p h) ∙ q

-- tests in groups
pub in_groups : (f g h : Report) → or_else (or_else f g) h ≡ or_else f (or_else g h)
in_groups f g h =
    ⊎_elim
    (λ (z : f.number ≡ 0). rw (or_next f g z, or_next f (or_else g h) z))
    (λ (z : f.number ≡ 0 → ⊥). rw (or_stop f g z, or_stop f h z, or_stop f (or_else g h) z))
    (passes f)
