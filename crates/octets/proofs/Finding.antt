-- The first number below a bound of which a test holds, and else the bound, as a search over a range tells it. Assumes nothing.
use Rattle.std.proofs.Common.{ℕ, ◌≡◌, ◌≤◌, ◌<◌, sym, ◌∙◌, Bool, true, false, Option, Some, None, MatchOption, unwrap_or, arith}
use Rattle.std.proofs.lemmas.Bool.{false≢true}
use borrow.Author.Tests.{leb-true, leb-false}
use lib.Dec.{leb}
use mathlib.Core.Path.{refl}
use Rattle.certificate.specs.Loops.{find}
use Rattle.certificate.proofs.Loops.{found, find_least}

-- where none below k passes, the first that does is not below it
none_before : (n k : ℕ) (p : ℕ → Bool) → k ≤ n → ((j : ℕ) → 0 ≤ j → j < k → p j ≡ false) → k ≤ find n p
none_before n k p le none = by (leb k (find n p)) refl
  where
    by : (q : Bool) → leb k (find n p) ≡ q → k ≤ find n p
    by true q = leb-true _ _ q
    by false q = absurd (false≢true (sym (none (find n p) (omega arith) (leb-false _ _ q)) ∙ (found n p).passes (omega (arith, leb-false _ _ q))))

pub find_of : (n : ℕ) (p : ℕ → Bool) (r : Option ℕ)
    → MatchOption r ((j : ℕ) → 0 ≤ j → j < n → p j ≡ false) (λ i. (0 ≤ i) × (i < n) × (p i ≡ true) × ((j : ℕ) → 0 ≤ j → j < i → p j ≡ false)) → unwrap_or r n ≡ find n p
find_of n p None none = omega (arith, none_before n n p (omega arith) none, (found n p).most)
find_of n p (Some i) (low, below, is, before) = omega (arith, none_before n i p (omega arith) before, find_least n p i is)
