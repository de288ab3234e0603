-- The state, what it holds, and loading.
use Rattle.std.specs.Prelude.{ℕ, ◌-◌, List, ◌++◌, Bool, ◌&&◌, cond, length, take, replicate, leb, eqb}
use Rattle.certificate.specs.Layout.{max_length}
use Rattle.network.specs.Conditions.{screening_of}
use Rattle.judging.specs.Verdict.{verdict_of}
use Rattle.judging.specs.Overflow.{overflows_of}
use Rattle.controller.specs.declared.Controller.{Controller}
use Rattle.controller.specs.declared.Loaded.{Loaded}

-- a fresh state is in mode 0 and holds no certificate
abbrev pub fresh_state : Controller
fresh_state = record { bytes = replicate max_length 0; len = 0; mode = 0 }

-- the state that holds its own copy of s, in mode 0; the array's bytes past the copy are 0
abbrev pub holding : List ℕ → Controller
holding s = record { bytes = s ++ replicate (max_length - length s) 0; len = length s; mode = 0 }

-- the state in mode m, all else as it was
abbrev pub in_mode : Controller → ℕ → Controller
in_mode c m = record { bytes = c.bytes; len = c.len; mode = m }

-- the stored bytes: the first len of the array
abbrev pub stored : Controller → List ℕ
stored c = take c.len c.bytes

-- the first n bytes of a state's array are a certificate (refusal 18 where not): it has as many, and they pass every test that comes before 12
unfoldable pub is_certificate : List ℕ → ℕ → Bool
is_certificate bytes n = leb n max_length && eqb (screening_of (take n bytes)).number 0

-- the state holds a certificate: its stored bytes are one
abbrev pub holds_certificate : Controller → Bool
holds_certificate c = is_certificate c.bytes c.len

-- an accepted load stores its own copy and sets mode 0; a refused one changes nothing. An acceptance has a second number beside its count
unfoldable pub load_of : Controller → List ℕ → Loaded
load_of c s = record { report = verdict_of s; overflows = overflows_of s; state = cond (eqb (verdict_of s).number 0) (holding s) c }
