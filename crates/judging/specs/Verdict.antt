-- The verdict of a byte string: every test in the stated order.
use Rattle.std.specs.Prelude.{ℕ, List}
use Rattle.certificate.specs.declared.Report.{Report}
use Rattle.certificate.specs.Checks.{or_else}
use Rattle.network.specs.Conditions.{screening_of}
use Rattle.judging.specs.EntryTests.{judging_from}

unfoldable pub verdict_of : List ℕ → Report
verdict_of s = or_else (screening_of s) (judging_from s 0 0)
