-- What is found is displayed, and the lent state passes to its mode; a refusal is displayed, and the state stays. Assumes nothing.
use Rattle.std.proofs.Common.{◌≡◌, ℕ, List, refl}
use Rattle.std.specs.Prelude.{Result, Ok, Err}
use Rattle.certificate.specs.declared.Report.{Report}
use Rattle.certificate.specs.Checks.{fine}
use Rattle.octets.specs.declared.refusals.Refused.{Refused}
use Rattle.octets.specs.Refusals.{report_of}
use Rattle.octets.proofs.Outcomes.{refuses_as}
use Rattle.asking.specs.declared.Found.{Found}
use Rattle.asking.specs.FoundEntries.{Answer, answer_of}
use Rattle.controller.specs.declared.Controller.{Controller}
use Rattle.controller.specs.declared.Shown.{Shown}
use Rattle.controller.specs.State.{in_mode}
use Rattle.controller.specs.Parts.{shown_by}
use Rattle.held_state.specs.declared.Display.{Display}
use Rattle.packed_state.specs.State.{held_in, state_bytes}
use Rattle.packed_state.proofs.Packing.{refusal_keeps, success_passes}
use Rattle.held_state.specs.Held.{Displayed}

-- a lent state, and the answer in its mode
module _ (state : List ℕ) (outcome : Result Found Refused) where
  pub found_shown : (state' : List ℕ) (found : Found) (r : Report) → outcome ≡ Ok found → r ≡ fine
      → state' ≡ state_bytes (in_mode (held_in state) found.mode)
      → Displayed (shown_by (held_in state) (answer_of (held_in state).mode outcome)) state state' (record { report = r; signal = found.signal; green = found.green })
  found_shown state' found r is fine_is bytes = rw (is, fine_is) (record { display = refl; bytes = success_passes _ _ state state' refl bytes })

  pub refused_shown : (e : Refused) (r : Report) → outcome ≡ Err e → r ≡ report_of e
      → Displayed (shown_by (held_in state) (answer_of (held_in state).mode outcome)) state state (record { report = r; signal = 0; green = 0 })
  refused_shown e r is told = rw (is, told) (record { display = refl; bytes = refusal_keeps _ _ state (refuses_as e (report_of e) refl) })

-- the lent state is c, and the answer found for it is what is due of c: so that is what is displayed
pub shown_as : (state state' : List ℕ) (c : Controller) (outcome : Result Found Refused) (answer : Answer) (due : Controller → Shown) (r : Display)
    → c ≡ held_in state → answer_of c.mode outcome ≡ answer → shown_by c answer ≡ due c
    → Displayed (shown_by (held_in state) (answer_of (held_in state).mode outcome)) state state' r → Displayed (due (held_in state)) state state' r
shown_as state state' c outcome answer due r same found is shown = rw (← same) (rw (← same, found, is) at shown)
