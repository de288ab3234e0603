-- A slice of any other length than a state's gets 18; what fresh and load answer where the length is right. Assumes nothing.
use Rattle.std.proofs.Common.{◌≡◌, ℕ, List, length, refl, sym, ap, ◌∙◌, arith}
use Rattle.std.specs.Prelude.{Result, Ok, IsErrAnd}
use Rattle.std.proofs.lemmas.Result.{err_from_is_err_and}
use Rattle.std.proofs.lemmas.Bool.{eq-eqb, ne_eqb}
use Rattle.certificate.specs.declared.Report.{Report}
use Rattle.certificate.specs.Checks.{report_with, refusal, fine, need}
use Rattle.certificate.proofs.Tests.{need_pass, need_fail}
use Rattle.judging.specs.Verdict.{verdict_of}
use Rattle.judging.specs.Overflow.{overflows_of}
use Rattle.octets.specs.declared.refusals.Refused.{Refused}
use Rattle.octets.specs.Refusals.{report_of}
use Rattle.octets.proofs.Outcomes.{refuses_as, need_holds, need_fails}
use Rattle.runs.proofs.RunClaim.{run_theorem}
use Rattle.verdict.specs.declared.Accepted.{Accepted}
use Rattle.controller.specs.declared.Controller.{Controller}
use Rattle.controller.specs.declared.Shown.{Shown}
use Rattle.controller.specs.State.{fresh_state, holding}
use Rattle.controller.specs.Query.{refused}
use Rattle.controller.specs.Write.{write_report, write_buffer}
use Rattle.controller.proofs.Holding.{fresh_holds_none}
use Rattle.controller.proofs.Lookups.{none_held}
use Rattle.controller.proofs.Writings.{write_empty, write_refused}
use Rattle.held_state.specs.declared.Display.{Display}
use Rattle.packed_state.specs.State.{state_size, has_state_size, state_bytes, bytes_after}
use Rattle.held_state.specs.Held.{load_report, load_overflows, display_of, HeldFresh, HeldLoad, Displayed}
use Rattle.held_state.specs.Laws.{OtherLengths, RightLength}
use Rattle.packed_state.proofs.Packing.{other_length, refusal_keeps, success_passes}

-- a fresh state's write
fresh_writes : (buffer : List ℕ) (start : ℕ) → (write_report fresh_state buffer start ≡ refusal 18 0) × (write_buffer fresh_state buffer start ≡ buffer)
fresh_writes buffer start =
    let n : (write_report fresh_state buffer start).number ≡ 18 = (write_empty fresh_state buffer start).1 fresh_holds_none in
    let w = write_refused fresh_state buffer start (λ z. omega arith) in
    (w.0 ∙ ap (λ (k : ℕ). refusal k 0) n, w.1)

pub other_lengths : OtherLengths
other_lengths state h =
    let no = ne_eqb (length state) state_size h in
    record {
      fresh = need_fail _ _ _ no;
      load = λ s. (need_fail _ _ _ no, rw no);
      query = λ queues scale. rw (other_length state h) (none_held fresh_state queues scale fresh_holds_none);
      write = λ buffer start. rw (other_length state h) (fresh_writes buffer start);
    }

pub right_length : RightLength
right_length state h =
    let yes = eq-eqb (length state) state_size h in
    record { fresh = need_pass _ _ _ yes; load = λ s. (need_pass _ _ _ yes, rw yes) }

-- what is answered where the length is another: an answer that is 18, displayed; fresh
unchanged : (state : List ℕ) (next : Controller) {due : Report} → due ≡ refusal 18 0 → state ≡ bytes_after due.number next state
unchanged state next e = rw e (refusal_keeps 18 next state (λ z. omega arith))

pub no_state_display : (shown : Shown) (state : List ℕ) (r : Display) → shown ≡ refused fresh_state (refusal 18 0)
    → r ≡ display_of (refused fresh_state (refusal 18 0)) → Displayed shown state state r
no_state_display shown state r back e =
    record { display = rw back e; bytes = unchanged state shown.state (ap (λ (x : Shown). x.report) back) }

pub no_state_fresh : (state : List ℕ) (r : Report) → (length state ≡ state_size → ⊥) → r ≡ refusal 18 0 → HeldFresh state state r
no_state_fresh state r h e =
    let back = (other_lengths state h).fresh in
    record { report = e ∙ sym back; bytes = unchanged state fresh_state back }

-- what fresh answers where it is right
pub fresh_passes : (state state' : List ℕ) (r : Report) → length state ≡ state_size → r ≡ fine → state' ≡ state_bytes fresh_state → HeldFresh state state' r
fresh_passes state state' r fit e b =
    let due = (right_length state fit).fresh in
    record { report = e ∙ sym due; bytes = success_passes _ fresh_state state state' (ap (λ (r : Report). r.number) due) b }

-- the state of an answer is kept where it is no refusal; the rest is displayed
pub kept : (shown : Shown) (state state' : List ℕ) → shown.report.number ≡ 0 → state' ≡ state_bytes shown.state → Displayed shown state state' (display_of shown)
kept shown state state' z b = record { display = refl; bytes = success_passes _ shown.state state state' z b }

pub not_kept : (shown : Shown) (state state' : List ℕ) → (shown.report.number ≡ 0 → ⊥) → state' ≡ state → Displayed shown state state' (display_of shown)
not_kept shown state state' bad b = record { display = refl; bytes = b ∙ refusal_keeps _ shown.state state bad }

-- what load answers
module _ (state s : List ℕ) where
  load_refused : (r : Result Accepted Refused) (e : Refused) → IsErrAnd r (λ x. x ≡ e) → report_of e ≡ load_report state s → 0 ≡ load_overflows state s → HeldLoad s state state r
  load_refused r e h told none =
      let q = err_from_is_err_and r h in
      let bad = refuses_as e (load_report state s) told in
      record { report = rw (q.1, q.2) told; overflows = rw q.1 none; bytes = refusal_keeps _ (holding s) state bad; runs = λ z. absurd (bad z) }

  -- where the length is another
  pub no_state_load : (r : Result Accepted Refused) (e : Refused) → IsErrAnd r (λ x. x ≡ e) → report_of e ≡ need (has_state_size state) (refusal 18 0) fine → HeldLoad s state state r
  no_state_load r e h told =
      let no = need_fails (has_state_size state) 18 0 e told in
      load_refused r e h (told ∙ need_fail _ _ _ no ∙ sym (need_fail _ _ _ no)) (rw no)

  module _ (fits : fine ≡ need (has_state_size state) (refusal 18 0) fine) where
    -- where it is right, a refusal and an acceptance
    pub load_judged : (r : Result Accepted Refused) (e : Refused) → IsErrAnd r (λ x. x ≡ e) → report_of e ≡ verdict_of s → 0 ≡ overflows_of s → HeldLoad s state state r
    load_judged r e h told none =
        let yes = need_holds _ 17 0 fits in
        load_refused r e h (told ∙ sym (need_pass _ _ _ yes)) (rw yes none)

    pub load_passes : (state' : List ℕ) (a : Accepted) → report_with 0 0 0 a.count ≡ verdict_of s → a.overflows ≡ overflows_of s → state' ≡ state_bytes (holding s)
        → HeldLoad s state state' (Ok a)
    load_passes state' a told overflows b =
        let yes = need_holds _ 17 0 fits in
        let accepted = sym (ap (λ (r : Report). r.number) told) in
        let due : load_report state s ≡ verdict_of s = need_pass _ _ _ yes in
        record {
          report = told ∙ sym due;
          overflows = rw yes overflows;
          bytes = success_passes _ (holding s) state state' (rw due accepted) b;
          runs = λ _. run_theorem s accepted;
        }
