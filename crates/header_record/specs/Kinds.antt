-- The kinds of certificates: which the second byte of a mark names, and what a kind has.
use Rattle.std.specs.Prelude.{ℕ, Bool, true, false, cond, eqb}
use Rattle.header_record.specs.declared.Kind.{Kind}
use Rattle.header_record.specs.declared.Kind.TheVariants.{Plain, StartFlow, Goals}

-- the kind of a byte; a mark of another byte is refused, and counts as plain until then
abbrev pub kind_of_byte : ℕ → Kind
kind_of_byte b = cond (eqb b 51) Goals (cond (eqb b 50) StartFlow Plain)

-- links have start flows, and modes remember the signal shown before
abbrev pub kind_remembers : Kind → Bool
kind_remembers Plain = false
kind_remembers StartFlow = true
kind_remembers Goals = true

-- modes have goals in turn
abbrev pub kind_takes_turns : Kind → Bool
kind_takes_turns Plain = false
kind_takes_turns StartFlow = false
kind_takes_turns Goals = true
