-- A number's decimal digits are its numeral (specs/Laws.antt). Assumes nothing.
use mathlib.Core.Path.{◌≡◌, refl, sym, ap, ◌∙◌}
use Prim.Native.Nat.{ℕ, zero, suc, ◌+◌, ◌*◌, ◌-◌, ◌/◌, ◌%◌, ◌^◌, ◌≤◌, ◌<◌}
use mathlib.Core.List.{List, [], ◌∷◌, ◌++◌}
use mathlib.Core.Bool.{Bool, true, false}
use native.Mathlib.Omega.{arith}
use native.Mathlib.Nat.{pow-suc}
use borrow.Author.Tests.{ltb-true, ltb-false, lt-ltb}
use lib.Dec.{ltb}
use lib.ListN.{length, get_or, length-append, get_or-append}
use lib.Seq.{get_or_at}
use Rattle.listing_text.specs.Text.{digits}
use Rattle.listing_text.specs.Laws.{read_on, Numeral, DecimalIsNumeral}

-- a number of at most k + 1 digits has a tenth of at most k
pub tenth : (k n : ℕ) → n < 10 ^ suc k → n / 10 < 10 ^ k
tenth k n h = omega (arith, pow-suc 10 k)

-- one digit more at the right
read_more : (n : ℕ) (ds : List ℕ) (d : ℕ) → read_on n (ds ++ (d ∷ [])) ≡ 10 * read_on n ds + (d - 0x30)
unfolding read_on
read_more n [] d = refl
read_more n (x ∷ ds) d = read_more (10 * n + (x - 0x30)) ds d

read_one : (d : ℕ) → read_on 0 (d ∷ []) ≡ d - 0x30
unfolding read_on
read_one d = omega arith

one_digit : (n : ℕ) → n < 10 → Numeral n ((48 + n) ∷ [])
one_digit n h =
    record {
      value = rw read_one (omega arith);
      some = omega arith;
      ascii = ascii;
      no_leading_zero = λ z. rw z;
    }
  where
    ascii : (i : ℕ) → i < 1 → (0x30 ≤ get_or ((48 + n) ∷ []) i 0) × (get_or ((48 + n) ∷ []) i 0 ≤ 0x39)
    ascii zero lt = (omega arith, omega arith)
    ascii (suc i) lt = absurd (omega arith)

more_digits : (n : ℕ) (ds : List ℕ) → 10 ≤ n → Numeral (n / 10) ds → Numeral n (ds ++ ((48 + n % 10) ∷ []))
more_digits n ds h tenths =
    record {
      value = rw (read_more, tenths.value) (omega arith);
      some = rw length-append (omega arith);
      ascii = λ i lt. ascii i (ltb i (length ds)) refl (rw length-append at lt);
      no_leading_zero = λ z. absurd (begins_zero (rw first at z));
    }
  where
    first : get_or (ds ++ ((48 + n % 10) ∷ [])) 0 0 ≡ get_or ds 0 0
    first = get_or-append ds _ 0 0 tenths.some

    begins_zero : get_or ds 0 0 ≡ 0x30 → ⊥
    begins_zero z =
        let none : n / 10 ≡ 0 = sym tenths.value ∙ ap (read_on 0) (tenths.no_leading_zero z) ∙ read_one 0x30 in
        omega arith

    ascii : (i : ℕ) (t : Bool) → ltb i (length ds) ≡ t → i < length ds + 1
        → (0x30 ≤ get_or (ds ++ ((48 + n % 10) ∷ [])) i 0) × (get_or (ds ++ ((48 + n % 10) ∷ [])) i 0 ≤ 0x39)
    ascii i true e lt = rw (get_or-append ds ((48 + n % 10) ∷ []) 0 i (ltb-true i (length ds) e)) (tenths.ascii i (ltb-true i (length ds) e))
    ascii i false e lt =
        let last : length ds ≡ i = omega (arith, ltb-false i (length ds) e) in
        rw (get_or_at ds (48 + n % 10) [] 0 i last) (omega arith, omega arith)

numerals : (k n : ℕ) → n < 10 ^ suc k → Numeral n (digits (suc k) n)
unfolding digits
numerals zero n h = rw (lt-ltb n 10 (omega arith)) (one_digit n (omega arith))
numerals (suc k) n h = go (ltb n 10) refl (numerals k (n / 10) (tenth (suc k) n h))
  where
    go : (t : Bool) → ltb n 10 ≡ t → Numeral (n / 10) (digits (suc k) (n / 10)) → Numeral n (digits (suc (suc k)) n)
    go true e tenths = rw e (one_digit n (ltb-true n 10 e))
    go false e tenths = rw e (more_digits n (digits (suc k) (n / 10)) (ltb-false n 10 e) tenths)

pub decimal_is_numeral : DecimalIsNumeral
decimal_is_numeral n h = numerals 9 n h
