-- What the code goes by: what is found, shown with the state, and what writing tells.
use Rattle.std.specs.Prelude.{ℕ, Result, Ok, Err}
use Rattle.certificate.specs.declared.Report.{Report}
use Rattle.certificate.specs.Checks.{report_with}
use Rattle.octets.specs.declared.refusals.Refused.{Refused}
use Rattle.octets.specs.Refusals.{report_of}
use Rattle.asking.specs.FoundEntries.{Answer}
use Rattle.controller.specs.declared.Controller.{Controller}
use Rattle.controller.specs.declared.Shown.{Shown}
use Rattle.controller.specs.State.{in_mode}

-- what is found, shown with the state in the mode found
abbrev pub shown_by : Controller → Answer → Shown
shown_by c found =
    record {
      report = found.report;
      signal = found.signal;
      green = found.green;
      state = in_mode c found.mode;
    }

-- what writing tells: success, and A is the length of the written part, or the refusal
abbrev pub told_length : Result ℕ Refused → Report
told_length (Ok n) = report_with 0 n 0 0
told_length (Err e) = report_of e
