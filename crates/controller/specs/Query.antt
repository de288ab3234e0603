-- Looking up the signal to show. A query tests 18, 16, 19.
use Rattle.std.specs.Prelude.{ℕ, List, cond, eqb}
use Rattle.certificate.specs.declared.Report.{Report}
use Rattle.certificate.specs.Checks.{refusal, fine, need}
use Rattle.certificate.specs.Layout.{green_byte_of}
use Rattle.certificate.specs.Entries.{cabinet_entry_of}
use Rattle.judging.specs.Lookup.{entry_for}
use Rattle.controller.specs.declared.Controller.{Controller}
use Rattle.controller.specs.declared.Shown.{Shown}
use Rattle.controller.specs.State.{in_mode, stored, holds_certificate}
use Rattle.judging.specs.Asking.{cell_asked, lookup_fault}

unfoldable pub query_fault : Controller → List ℕ → ℕ → Report
query_fault c queues scale =
    need (holds_certificate c) (refusal 18 0) (lookup_fault (stored c) c.mode queues scale)

-- the entry that a query finds
abbrev pub entry_asked : Controller → List ℕ → ℕ → ℕ
entry_asked c queues scale = entry_for (stored c) (cell_asked (stored c) queues scale) c.mode

-- entry e's signal, its green byte, and the state in its next mode, by the cabinet's reading, which skips the rank
abbrev pub showing : Controller → ℕ → Shown
showing c e =
    record {
      report = fine;
      signal = (cabinet_entry_of (stored c) e).signal;
      green = green_byte_of (stored c) (cabinet_entry_of (stored c) e).signal;
      state = in_mode c (cabinet_entry_of (stored c) e).next_mode;
    }

-- a refusal shows signal and green byte 0 and leaves the state as it was
abbrev pub refused : Controller → Report → Shown
refused c f = record { report = f; signal = 0; green = 0; state = c }

unfoldable pub query_of : Controller → List ℕ → ℕ → Shown
query_of c queues scale =
    cond (eqb (query_fault c queues scale).number 0)
    (showing c (entry_asked c queues scale))
    (refused c (query_fault c queues scale))
