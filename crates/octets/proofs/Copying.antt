-- A list copied into the front of another. Assumes nothing.
use mathlib.Core.Path.{◌≡◌}
use mathlib.Core.List.{List, [], ◌++◌, append-nil}
use Prim.Native.Nat.{ℕ, zero, suc, ◌+◌, ◌-◌}
use native.Mathlib.Nat.{sub-zero, zero-sub, suc-sub-suc}
use native.Mathlib.Omega.{arith}
use lib.ListN.{length, take, drop, replicate, length-drop, drop_of_length-le}
use lib.Seq.{take-length, take_all, drop-drop}

drop-replicate : (n m v : ℕ) → drop n (replicate m v) ≡ replicate (m - n) v
drop-replicate zero m v = rw sub-zero
drop-replicate (suc n) zero v = rw zero-sub
drop-replicate (suc n) (suc m) v = rw suc-sub-suc (drop-replicate n m v)

-- the copy of all of s into m zeros
pub copied_all : (m : ℕ) (s : List ℕ) → take (length s) s ++ drop (length s) (replicate m 0) ≡ s ++ replicate (m - length s) 0
copied_all m s = rw (take-length, drop-replicate)

-- What a callee wrote into the part of b that starts at start, said of b.

-- the part from start to the end is `drop start b`
part_is : (b : List ℕ) (start : ℕ) → take (length b - start) (drop start b) ≡ drop start b
part_is b start = take_all (length b - start) (drop start b) (omega (arith, length-drop start b))

-- nothing lies behind it
behind : (b : List ℕ) (start : ℕ) → drop (length b - start) (drop start b) ≡ []
behind b start = drop_of_length-le (drop start b) {i = length b - start} (omega (arith, length-drop start b))

-- p, n bytes, was put at the part's front
pub put_back : (b p e : List ℕ) (start n : ℕ) → e ≡ p ++ drop n (take (length b - start) (drop start b))
    → take start b ++ (e ++ drop (length b - start) (drop start b)) ≡ take start b ++ (p ++ drop (start + n) b)
put_back b p e start n h = rw (behind b start, append-nil, h, part_is b start, drop-drop)
