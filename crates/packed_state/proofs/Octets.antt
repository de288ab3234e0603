-- A number below 2 to the 64 is the number of its eight bytes. Assumes nothing.
use Prim.Native.Nat.{ℕ, ◌+◌, ◌*◌, ◌/◌, ◌<◌}
use mathlib.Core.Path.{◌≡◌, sym, ◌∙◌}
use native.Mathlib.Nat.{div-add-mod', div-div-eq-div-mul, div-lt_iff_lt-mul, mod-eq_of_lt, div-one}
use native.Mathlib.Omega.{arith}
use Rattle.std.proofs.Common.{w64, List, get_or, get_or-take, get_or-drop, take, drop, [], ◌∷◌, ◌++◌}
use Rattle.std.specs.Int.{to_be_bytes}
use Rattle.packed_state.specs.State.{quad_at, eight_at, octet_of, state_tail}

-- one byte more of n
step : (n u : ℕ) → n / u ≡ n / (u * 256) * 256 + octet_of n u
unfolding octet_of
step n u = sym (div-add-mod' (n / u) 256) ∙ rw div-div-eq-div-mul

-- the highest byte
top : (n : ℕ) → n < 18446744073709551616 → octet_of n 72057594037927936 ≡ n / 72057594037927936
unfolding octet_of
top n h = mod-eq_of_lt ((div-lt_iff_lt-mul {k = 72057594037927936} {x = n} {y = 256} (omega arith)).1 (omega arith))

pub eight : (n : ℕ) → n < 18446744073709551616
    → ((octet_of n 72057594037927936 * 256 + octet_of n 281474976710656) * 65536 + (octet_of n 1099511627776 * 256 + octet_of n 4294967296)) * 4294967296
    + ((octet_of n 16777216 * 256 + octet_of n 65536) * 65536 + (octet_of n 256 * 256 + octet_of n 1)) ≡ n
eight n h =
    omega (arith, top n h, step n 281474976710656, step n 1099511627776, step n 4294967296, step n 16777216, step n 65536, step n 256, step n 1, div-one n)

-- the length's eight bytes and the mode, as the library writes them
pub tail_is : (n mode : ℕ) → state_tail n mode ≡ to_be_bytes w64 n ++ (mode ∷ [])
unfolding state_tail octet_of
tail_is n mode = rw div-one

-- a byte of a part of a list
pub byte_in : (s part : List ℕ) (n m : ℕ) → part ≡ take m (drop n s) → (i k : ℕ) → i < m → n + i ≡ k → get_or part i 0 ≡ get_or s k 0
byte_in s part n m is i k lt same = rw is (get_or-take m (drop n s) i 0 lt ∙ get_or-drop n s i 0 ∙ rw same)

-- the number of eight bytes, as the library reads them
pub eight_is : (s tail bytes : List ℕ) (n x : ℕ) → tail ≡ drop n s → bytes ≡ take 8 tail
    → x ≡ get_or bytes 0 0 * 72057594037927936 + get_or bytes 1 0 * 281474976710656 + get_or bytes 2 0 * 1099511627776 + get_or bytes 3 0 * 4294967296
    + get_or bytes 4 0 * 16777216 + get_or bytes 5 0 * 65536 + get_or bytes 6 0 * 256 + get_or bytes 7 0
    → x ≡ eight_at s n
unfolding eight_at quad_at
eight_is s tail bytes n x rest first e =
    let at = byte_in s bytes n 8 (first ∙ rw rest) in
    omega (
      arith,
      e,
      at 0 n (omega arith) (omega arith),
      at 1 (n + 1) (omega arith) (omega arith),
      at 2 (n + 2) (omega arith) (omega arith),
      at 3 (n + 2 + 1) (omega arith) (omega arith),
      at 4 (n + 4) (omega arith) (omega arith),
      at 5 (n + 4 + 1) (omega arith) (omega arith),
      at 6 (n + 4 + 2) (omega arith) (omega arith),
      at 7 (n + 4 + 2 + 1) (omega arith) (omega arith),
    )
