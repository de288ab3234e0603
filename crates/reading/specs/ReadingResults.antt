-- What reading finds out on its way, and what it answers.
use Rattle.std.specs.Prelude.{ℕ, ◌≤◌, List, ◌≡◌, Result, IfOk}
use Rattle.certificate.specs.declared.Report.{Report}
use Rattle.certificate.specs.Checks.{or_else}
use Rattle.certificate.specs.Layout.{turns_start, signals_start, modes_start, grid_start}
use Rattle.certificate.specs.Records.{end_fault}
use Rattle.certificate.specs.Reading.{links_fault, turns_fault, signals_fault, modes_fault, grids_fault, arrivals_fault, entries_fault}
use Rattle.octets.specs.Bounds.{grids_bound}
use Rattle.octets.specs.declared.refusals.Refused.{Refused}
use Rattle.octets.specs.Refusals.{told}
use Rattle.reading.specs.declared.Certificate.{Certificate}

-- where the records of turns, signals, modes and grids begin
pub record StartsOf (s : List ℕ) (turns signals modes grids : ℕ) : Type 0 where
  pub turns_is : turns ≡ turns_start s
  pub turns_most : turns ≤ grids_bound
  pub signals_is : signals ≡ signals_start s
  pub signals_most : signals ≤ grids_bound
  pub modes_is : modes ≡ modes_start s
  pub modes_most : modes ≤ grids_bound
  pub grids_is : grids ≡ grid_start s
  pub grids_most : grids ≤ grids_bound

-- parts of reading: LK, TN, SG and MD; AR, EN and ZZ; all from GR on
unfoldable pub network_fault : List ℕ → Report
network_fault s = or_else (links_fault s) (or_else (turns_fault s) (or_else (signals_fault s) (modes_fault s)))

unfoldable pub tail_fault : List ℕ → Report
tail_fault s = or_else (arrivals_fault s) (or_else (entries_fault s) (end_fault s))

unfoldable pub back_fault : List ℕ → Report
back_fault s = or_else (grids_fault s) (tail_fault s)

-- what reading answers: the refusal, or the certificate that these bytes are
pub record ReadAs (s : List ℕ) (fault : Report) (r : Result Certificate Refused) : Type 0 where
  pub told_is : told r ≡ fault
  pub bytes_are : IfOk r (λ c. c.bytes.now ≡ s)
