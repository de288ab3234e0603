-- What the code finds on the way to a query's answer, said of the array's bytes, their number and the mode alone.
use Rattle.std.specs.Prelude.{ℕ, ◌≡◌, List, cond, length, take, leb, eqb, Result, Ok, Err, IfOk}
use Rattle.certificate.specs.declared.Report.{Report}
use Rattle.certificate.specs.Checks.{refusal, fine, need}
use Rattle.certificate.specs.Layout.{green_byte_of}
use Rattle.certificate.specs.Entries.{cabinet_entry_of}
use Rattle.network.specs.Conditions.{screening_of}
use Rattle.judging.specs.Lookup.{entry_for}
use Rattle.octets.specs.declared.refusals.Refused.{Refused}
use Rattle.octets.specs.Refusals.{report_of, told}
use Rattle.reading.specs.declared.Certificate.{Certificate}
use Rattle.asking.specs.declared.Found.{Found}
use Rattle.judging.specs.Asking.{is_proper, cell_asked, cell_fault}

-- an answer: its report, the signal to show and its green byte, and the mode that the state passes to
pub record Answer : Type 0 where
  pub report : Report
  pub signal : ℕ
  pub green : ℕ
  pub mode : ℕ

-- the screening of the first n bytes of an array, and a refusal where it has fewer
unfoldable pub stored_fault : List ℕ → ℕ → Report
stored_fault bytes n = need (leb n (length bytes)) (refusal 18 0) (screening_of (take n bytes))

-- 18: the first n bytes are no certificate
unfoldable pub held_fault : List ℕ → ℕ → Report
held_fault bytes n = need (eqb (stored_fault bytes n).number 0) (refusal 18 0) fine

-- the certificate that the first n bytes are, or 18
pub record HeldAs (bytes : List ℕ) (n : ℕ) (r : Result Certificate Refused) : Type 0 where
  pub told_is : told r ≡ held_fault bytes n
  pub bytes_are : IfOk r (λ c. c.bytes.now ≡ take n bytes)

-- what entry e says by the cabinet's reading, which skips the rank: its signal, that signal's green byte, and the next mode
abbrev pub found_at : List ℕ → ℕ → Answer
found_at s e =
    record {
      report = fine;
      signal = (cabinet_entry_of s e).signal;
      green = green_byte_of s (cabinet_entry_of s e).signal;
      mode = (cabinet_entry_of s e).next_mode;
    }

-- a refusal: signal and green byte 0, and the mode as it was
abbrev pub not_found : Report → ℕ → Answer
not_found f mode = record { report = f; signal = 0; green = 0; mode = mode }

-- success: what is found
abbrev pub showing : Found → Answer
showing found = record { report = fine; signal = found.signal; green = found.green; mode = found.mode }

-- what an outcome answers in the mode: what is found, or the refusal
abbrev pub answer_of : ℕ → Result Found Refused → Answer
answer_of mode (Ok found) = showing found
answer_of mode (Err e) = not_found (report_of e) mode

-- what is found for cell d in the mode: what its entry says, or 19
unfoldable pub cell_found : List ℕ → ℕ → ℕ → Answer
cell_found s mode d =
    cond (eqb (cell_fault s mode d).number 0) (found_at s (entry_for s d mode)) (not_found (cell_fault s mode d) mode)

-- looking up in the certificate s: 16, else what is found for the queues' cell
unfoldable pub lookup_of : List ℕ → ℕ → List ℕ → ℕ → Answer
lookup_of s mode queues scale =
    cond (is_proper s queues scale) (cell_found s mode (cell_asked s queues scale)) (not_found (refusal 16 0) mode)

-- looking up in the first n bytes of an array, where they are a certificate
unfoldable pub asked_of : List ℕ → ℕ → ℕ → List ℕ → ℕ → Answer
asked_of bytes n mode queues scale =
    cond (eqb (stored_fault bytes n).number 0)
    (lookup_of (take n bytes) mode queues scale)
    (not_found (refusal 18 0) mode)
