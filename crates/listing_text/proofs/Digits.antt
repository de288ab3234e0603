-- The decimal digits of a number, one by one, and how many there are. Assumes nothing.
use mathlib.Core.Path.{◌≡◌, refl, sym, ap, ◌∙◌}
use Prim.Native.Nat.{ℕ, zero, suc, ◌+◌, ◌/◌, ◌%◌, ◌^◌, ◌≤◌, ◌<◌}
use mathlib.Core.List.{List, [], ◌∷◌, ◌++◌}
use mathlib.Core.Bool.{Bool, true, false, cond}
use native.Mathlib.Omega.{arith}
use borrow.Author.Tests.{ltb-true, ltb-false, lt-ltb, le-ltb}
use lib.Dec.{ltb}
use lib.ListN.{length, length-append}
use Rattle.listing_text.specs.Text.{digits, decimal}
use Rattle.listing_text.specs.Laws.{DecimalShort, DecimalFits}
use Rattle.listing_text.proofs.Numerals.{tenth}

-- a number below ten has one digit
digits_one : (k n : ℕ) → n < 10 → digits (suc k) n ≡ (48 + n) ∷ []
unfolding digits
digits_one k n h = rw (lt-ltb n 10 h)

digits_step : (k n : ℕ) → 10 ≤ n → digits (suc k) n ≡ digits k (n / 10) ++ ((48 + n % 10) ∷ [])
unfolding digits
digits_step k n h = rw (le-ltb n 10 h)

-- where k digits suffice, one more changes nothing
digits_more : (k n : ℕ) → n < 10 ^ suc k → digits (suc (suc k)) n ≡ digits (suc k) n
digits_more zero n h = digits_one 1 n (omega arith) ∙ sym (digits_one 0 n (omega arith))
digits_more (suc k) n h = go (ltb n 10) refl (digits_more k (n / 10) (tenth (suc k) n h))
  where
    go : (t : Bool) → ltb n 10 ≡ t → digits (suc (suc k)) (n / 10) ≡ digits (suc k) (n / 10) → digits (suc (suc (suc k))) n ≡ digits (suc (suc k)) n
    go true e ih = digits_one _ n (ltb-true n 10 e) ∙ sym (digits_one _ n (ltb-true n 10 e))
    go false e ih = rw (digits_step (suc (suc k)) n (ltb-false n 10 e), digits_step (suc k) n (ltb-false n 10 e), ih)

-- the digits of a number of at most ten: one below ten, else those of its tenth and the last
pub decimal_one : (n : ℕ) → n < 10 → decimal n ≡ (48 + n) ∷ []
decimal_one n h = digits_one 9 n h

pub decimal_step : (n : ℕ) → n < 10 ^ 10 → 10 ≤ n → decimal n ≡ decimal (n / 10) ++ ((48 + n % 10) ∷ [])
decimal_step n h g = digits_step 9 n g ∙ ap (λ (d : List ℕ). d ++ ((48 + n % 10) ∷ [])) (sym (digits_more 8 (n / 10) (omega arith)))

-- at most k digits
digits_most : (k n : ℕ) → length (digits k n) ≤ k
unfolding digits
digits_most zero n = omega arith
digits_most (suc k) n = go (ltb n 10) (digits_most k (n / 10))
  where
    go : (t : Bool) → length (digits k (n / 10)) ≤ k → length (cond t ((48 + n) ∷ []) (digits k (n / 10) ++ ((48 + n % 10) ∷ []))) ≤ suc k
    go true h = omega arith
    go false h = rw length-append (omega arith)

pub decimal_fits : DecimalFits
decimal_fits n = digits_most 10 n

pub length_one : (n : ℕ) → n < 10 → length (decimal n) ≡ 1
length_one n h = ap length (decimal_one n h)

pub length_step : (n : ℕ) → n < 10 ^ 10 → 10 ≤ n → length (decimal n) ≡ length (decimal (n / 10)) + 1
length_step n h g = ap length (decimal_step n h g) ∙ length-append (decimal (n / 10)) ((48 + n % 10) ∷ [])

-- at least one digit
digits_least : (k n : ℕ) → 1 ≤ length (digits (suc k) n)
unfolding digits
digits_least k n = go (ltb n 10)
  where
    go : (t : Bool) → 1 ≤ length (cond t ((48 + n) ∷ []) (digits k (n / 10) ++ ((48 + n % 10) ∷ [])))
    go true = omega arith
    go false = rw length-append (omega arith)

pub decimal_least : (n : ℕ) → 1 ≤ length (decimal n)
decimal_least n = digits_least 9 n

-- a number below a power of ten has at most as many digits as that has zeros
digits_short : (j k n : ℕ) → n < 10 ^ suc k → length (digits j n) ≤ suc k
digits_short zero k n h = unfold digits in omega arith
digits_short (suc j) zero n h = rw (digits_one j n (omega arith)) (omega arith)
digits_short (suc j) (suc k) n h = go (ltb n 10) refl (digits_short j k (n / 10) (tenth (suc k) n h))
  where
    go : (t : Bool) → ltb n 10 ≡ t → length (digits j (n / 10)) ≤ suc k → length (digits (suc j) n) ≤ suc (suc k)
    go true e ih = rw (digits_one j n (ltb-true n 10 e)) (omega arith)
    go false e ih = rw (digits_step j n (ltb-false n 10 e), length-append) (omega arith)

pub decimal_short : DecimalShort
decimal_short k n h = digits_short 10 k n h
