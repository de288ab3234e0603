-- Results, and how tests follow one another: the first that fails is the answer.
use Rattle.std.specs.Prelude.{ℕ, zero, suc, ◌+◌, ◌-◌, List, Bool, ◌&&◌, cond, length, leb, eqb}
use Rattle.certificate.specs.declared.Report.{Report}
use Rattle.certificate.specs.Octets.{byte_at}

-- a result (document 01: number, places A and B, count)
abbrev pub report_with : ℕ → ℕ → ℕ → ℕ → Report
report_with number a b count = record { number = number; a = a; b = b; count = count }

-- a refusal (document 01: turned back) that names place A alone; places and counts that are not named are 0
abbrev pub refusal : ℕ → ℕ → Report
refusal number a = report_with number a 0 0

-- success: number 0
abbrev pub fine : Report
fine = refusal 0 0

-- where the test holds, what follows; else the refusal
unfoldable pub need : Bool → Report → Report → Report
need test refused next = cond test next refused

-- the first where it is a refusal, else the second
unfoldable pub or_else : Report → Report → Report
or_else f g = cond (eqb f.number 0) g f

-- the first refusal among k tests from i on
unfoldable pub first_of : (ℕ → Report) → ℕ → ℕ → Report
first_of f zero i = fine
first_of f (suc k) i = or_else (f i) (first_of f k (i + 1))

-- the first refusal among the tests i .. n - 1
unfoldable pub first_from : ℕ → (ℕ → Report) → ℕ → Report
first_from n f i = first_of f (n - i) i

-- the first refusal among the tests 0 .. n - 1
abbrev pub first_bad : ℕ → (ℕ → Report) → Report
first_bad n f = first_from n f 0

-- the two-byte mark at offset o is m and k, in ASCII
unfoldable pub marked : List ℕ → ℕ → ℕ → ℕ → Bool
marked s o m k = eqb (byte_at s o) m && eqb (byte_at s (o + 1)) k

-- the record at o: mark present (1), mark right (2), record whole (1); `mark` is whether its mark is right
unfoldable pub opened : List ℕ → ℕ → Bool → ℕ → Report
opened s o mark size =
    need (leb (o + 2) (length s)) (refusal 1 o)
    (need mark (refusal 2 o)
    (need (leb (o + size) (length s)) (refusal 1 o)
    fine))
