-- The listing, and the calls on a state that is held as bytes: what each answers, and every lent slice afterwards.
-- A slice of any other length than a state's gets 18 from each of them.
use Rattle.std.specs.Prelude.{ℕ, List, ◌≡◌}
use Rattle.runs.specs.Claim.{RunClaim}
use Rattle.controller.specs.State.{fresh_state, holding}
use Rattle.controller.specs.Write.{write_report, write_buffer}
use Rattle.listing_text.specs.Listing.{list_report, list_buffer}
use Rattle.packed_state.specs.State.{held_in, bytes_after}
use Rattle.held_state.specs.Held.{fresh_report, load_report, load_overflows, shown_for}
use Rattle.exports.specs.Exported.{report_numbers, verdict_numbers, shown_numbers, Called}

-- a listing: the buffer
abbrev pub ListCall : List ℕ → List ℕ → List ℕ → List ℕ → List ℕ → ℕ → Type 0
ListCall s buffer buffer' out out' r =
    Called (report_numbers (list_report s buffer)) (list_buffer s buffer) buffer buffer' out out' r

-- a fresh state; it has no `out`
abbrev pub FreshCall : List ℕ → List ℕ → ℕ → Type 0
FreshCall state state' r = (r ≡ (fresh_report state).number) × (state' ≡ bytes_after (fresh_report state).number fresh_state state)

-- a load: the state holds its own copy; every run of an accepted certificate keeps the run claim
pub record LoadCall (s state state' out out' : List ℕ) (r : ℕ) : Type 0 where
  pub called : Called (verdict_numbers (load_report state s) (load_overflows state s)) (bytes_after (load_report state s).number (holding s) state) state state' out out' r
  pub claim : r ≡ 0 → RunClaim s

-- a query of the state that is held
abbrev pub QueryCall : List ℕ → ℕ → List ℕ → List ℕ → List ℕ → List ℕ → ℕ → Type 0
QueryCall queues scale state state' out out' r =
    Called (shown_numbers (shown_for state queues scale))
    (bytes_after (shown_for state queues scale).report.number (shown_for state queues scale).state state) state state' out out' r

-- a write of the certificate that is held: the buffer
abbrev pub WriteCall : List ℕ → ℕ → List ℕ → List ℕ → List ℕ → List ℕ → ℕ → Type 0
WriteCall state start buffer buffer' out out' r =
    Called (report_numbers (write_report (held_in state) buffer start)) (write_buffer (held_in state) buffer start) buffer buffer' out out' r
