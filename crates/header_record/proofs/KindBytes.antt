-- What the kind of a byte has. Assumes nothing.
use Rattle.std.proofs.Common.{◌≡◌, ℕ, List, Bool, true, false, ◌||◌, cond, refl}
use Rattle.std.proofs.Math.Dec.{eqb}
use Rattle.certificate.specs.Layout.{kind_byte_of, remembers, takes_turns}
use Rattle.header_record.specs.declared.Kind.TheVariants.{Plain, StartFlow, Goals}
use Rattle.header_record.specs.Kinds.{kind_of_byte, kind_remembers, kind_takes_turns}

pub kind_with_memory : (s : List ℕ) → kind_remembers (kind_of_byte (kind_byte_of s)) ≡ remembers s
unfolding remembers
kind_with_memory s = go (eqb (kind_byte_of s) 50) (eqb (kind_byte_of s) 51)
  where
    go : (p q : Bool) → kind_remembers (cond q Goals (cond p StartFlow Plain)) ≡ (p || q)
    go true true = refl
    go true false = refl
    go false true = refl
    go false false = refl

pub kind_with_turns : (s : List ℕ) → kind_takes_turns (kind_of_byte (kind_byte_of s)) ≡ takes_turns s
unfolding takes_turns
kind_with_turns s = go (eqb (kind_byte_of s) 50) (eqb (kind_byte_of s) 51)
  where
    go : (p q : Bool) → kind_takes_turns (cond q Goals (cond p StartFlow Plain)) ≡ q
    go p true = refl
    go true false = refl
    go false false = refl
