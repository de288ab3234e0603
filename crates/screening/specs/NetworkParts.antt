-- What turns add to the links that they lead to.
use Rattle.std.specs.Prelude.{ℕ, eqb}
use Rattle.certificate.specs.Loops.{pick}

-- what turn t adds to link l, where it leads to link `to t` and carries f t
abbrev pub into : (ℕ → ℕ) → (ℕ → ℕ) → ℕ → ℕ → ℕ
into to f l t = pick (eqb (to t) l) (f t) 0
