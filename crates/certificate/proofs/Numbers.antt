-- The numbers of reading are those of specs/Laws.antt, and its count is 0. Assumes nothing.
use Prim.Native.Nat.{ℕ, ◌-◌, min}
use mathlib.Core.List.{List}
use mathlib.Core.Path.{◌≡◌, refl}
use mathlib.Core.Logic.{⊎_elim}
use native.Mathlib.Omega.{arith}
use Rattle.certificate.specs.declared.Report.{Report}
use Rattle.certificate.specs.Reading.{reading_of}
use Rattle.certificate.specs.Due.{Kind}
use Rattle.certificate.specs.Laws.{ReadingNumber, up_to_nine, of_order, of_memory, of_goal, ReadingNumbers}
use Rattle.certificate.proofs.Tests.{passes}
use Rattle.certificate.proofs.Plain.{reading_is_fine}
use Rattle.certificate.proofs.FieldTests.{test_number_lem}
use Rattle.certificate.proofs.Faults.{Fault, too_short, wrong_mark, breaks}
use Rattle.certificate.proofs.FirstFault.{first_fault}

-- a result with a number of reading, and no count
pub record OfReading (r : Report) : Type 0 where
  pub number : ReadingNumber r.number
  pub no_count : r.count ≡ 0

-- no number of reading is one of the stages after it, 10 to 15; said so that omega reads it
pub reading_apart : (n : ℕ) → ReadingNumber n → min (n - 9) (16 - n) ≡ 0
reading_apart n (up_to_nine h) = omega arith
reading_apart n (of_order e) = omega arith
reading_apart n (of_memory e) = omega arith
reading_apart n (of_goal e) = omega arith

-- the refusal of a record
of_fault : (s : List ℕ) (k : Kind) (i : ℕ) (r : Report) → Fault s k i r → OfReading r
of_fault s k i r (too_short f e) = rw e (record { number = up_to_nine (omega arith); no_count = refl })
of_fault s k i r (wrong_mark f e) = rw e (record { number = up_to_nine (omega arith); no_count = refl })
of_fault s k i r (breaks t same f e) = rw e (record { number = test_number_lem t; no_count = refl })

pub of_reading : (s : List ℕ) → OfReading (reading_of s)
of_reading s =
    ⊎_elim
    (λ (z : (reading_of s).number ≡ 0). rw (reading_is_fine s z) (record { number = up_to_nine (omega arith); no_count = refl }))
    (λ bad. let f = first_fault s bad in of_fault s _ _ _ f.fault)
    (passes (reading_of s))

pub reading_numbers : ReadingNumbers
reading_numbers s = (of_reading s).number
