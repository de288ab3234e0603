-- Writing fills the lent buffer from a start of the caller's choosing, and every other byte stays. It tests 18, 17.
-- Of the state it reads the array and the length alone.
use Rattle.std.specs.Prelude.{ℕ, ◌+◌, ◌-◌, List, ◌++◌, Bool, ◌&&◌, cond, length, take, drop, leb, eqb}
use Rattle.certificate.specs.declared.Report.{Report}
use Rattle.certificate.specs.Checks.{report_with, refusal, need}
use Rattle.controller.specs.declared.Controller.{Controller}
use Rattle.controller.specs.State.{is_certificate}

-- the start does not lie beyond the buffer, and the part from there is no shorter than a certificate of n bytes (refusal 17 where not)
unfoldable pub has_room : ℕ → List ℕ → ℕ → Bool
has_room n buffer start = leb start (length buffer) && leb n (length buffer - start)

-- writing the first n bytes of an array. The answer: 18, 17, or success, and A is the length of the written part
unfoldable pub write_report_of : List ℕ → ℕ → List ℕ → ℕ → Report
write_report_of bytes n buffer start =
    need (is_certificate bytes n) (refusal 18 0)
    (need (has_room n buffer start) (refusal 17 0)
    (report_with 0 n 0 0))

-- the buffer afterwards: these bytes from start on, all else as it was; a refusal leaves it as it was
unfoldable pub write_buffer_of : List ℕ → ℕ → List ℕ → ℕ → List ℕ
write_buffer_of bytes n buffer start =
    cond (eqb (write_report_of bytes n buffer start).number 0)
    (take start buffer ++ (take n bytes ++ drop (start + n) buffer))
    buffer

-- a state's write: its stored bytes
abbrev pub write_report : Controller → List ℕ → ℕ → Report
write_report c = write_report_of c.bytes c.len

abbrev pub write_buffer : Controller → List ℕ → ℕ → List ℕ
write_buffer c = write_buffer_of c.bytes c.len
