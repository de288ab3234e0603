-- `mode_checks::modes::check_modes` meets its contract.
use mathlib.Core.Path.{◌≡◌}
use Rattle.certificate.specs.Checks.{first_from}
use Rattle.certificate.specs.Layout.{mode_records_of}
use Rattle.certificate.specs.Records.{mode_fault}
use Rattle.certificate.specs.Reading.{modes_fault}
use Rattle.mode_checks.proofs.modes.check_modes.Given as goal

abbrev pub invariant-loop-m : goal.invariant-loop-m
invariant-loop-m l = let s = l.modes.bytes.now in first_from (mode_records_of s) (mode_fault s) l.m ≡ modes_fault s
