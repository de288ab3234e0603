-- A value that is picked by a test, in the form in which a proof of code has the facts. Assumes nothing.
use Prim.Native.Nat.{ℕ, ◌*◌}
use mathlib.Core.Bool.{Bool, true, false}
use mathlib.Core.Path.{◌≡◌, refl}
use mir.Val.{bool_byte}
use Rattle.certificate.specs.Loops.{pick}

pub pick_yes : (q : Bool) (v a b : ℕ) → q ≡ true → v ≡ a → v ≡ pick q a b
pick_yes q v a b e p = rw e p

pub pick_no : (q : Bool) (v a b : ℕ) → q ≡ false → v ≡ b → v ≡ pick q a b
pick_no q v a b e p = rw e p

-- the byte of a test
pub byte_picks : (b : Bool) → bool_byte b ≡ pick b 1 0
byte_picks true = refl
byte_picks false = refl

-- a product of two values that are known
pub times_same : (a b m n : ℕ) → a ≡ m → b ≡ n → a * b ≡ m * n
times_same a b m n p q = rw (p, q)
