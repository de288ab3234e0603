-- What `judge` answers, from what screening and judging answered. Assumes nothing.
use Prim.Native.Nat.{ℕ, ◌*◌, ◌≤◌}
use mathlib.Core.List.{List}
use mathlib.Core.Path.{◌≡◌, refl, sym, ap, ◌∙◌}
use Rattle.std.specs.Prelude.{Result, Ok, Err, IfOk}
use Rattle.std.specs.Result.{IsErrAnd}
use Rattle.std.proofs.lemmas.Result.{err_from_is_err_and}
use Rattle.certificate.specs.declared.Report.{Report}
use Rattle.certificate.specs.Checks.{fine}
use Rattle.octets.specs.declared.refusals.Refused.{Refused}
use Rattle.octets.specs.Refusals.{report_of}
use Rattle.octets.proofs.Outcomes.{refuses_as, stands, then_next}
use Rattle.network.specs.Conditions.{screening_of}
use Rattle.judging.specs.EntryTests.{judging_from}
use Rattle.judging.specs.Verdict.{verdict_of}
use Rattle.judging.specs.Overflow.{overflows_of}
use Rattle.judging.proofs.Verdicts.{count_fits}
use Rattle.judging.proofs.Overflows.{accepted_overflows, refused_overflows, overflows_fit}
use Rattle.certificate.specs.Layout.{entries_of, boxes_of, cells_of}
use Rattle.verdict.specs.declared.Accepted.{Accepted}
use Rattle.verdict.specs.declared.Judged.{Judged}
use Rattle.verdict.specs.Entries.{JudgedAs, verdict_told, overflows_in, judged_as}

-- what a verdict says of s: its report, and the number of entries that overflow
abbrev pub Says : List ℕ → Result Accepted Refused → Type 0
Says s r = (verdict_told r ≡ verdict_of s) × (overflows_in r ≡ overflows_of s)

-- a refusal that is the verdict says it
refusal_says : (s : List ℕ) (e : Refused) → report_of e ≡ verdict_of s → Says s (Err e)
refusal_says s e is = (is, sym (refused_overflows s (λ z. refuses_as e _ is z)))

-- a refusal of screening is the verdict; else judging goes on
pub screening_says : (s : List ℕ) (e : Refused) → report_of e ≡ screening_of s → Says s (Err e)
unfolding verdict_of
screening_says s e p = refusal_says s e (stands e _ _ p)

judged_is : (s : List ℕ) (r : Report) → fine ≡ screening_of s → r ≡ judging_from s 0 0 → r ≡ verdict_of s
unfolding verdict_of
judged_is s r p q = then_next _ _ _ p q

pub judging_says : (s : List ℕ) (r : Result Accepted Refused) → fine ≡ screening_of s → JudgedAs s (judging_from s 0 0) r → Says s r
judging_says s (Ok a) p J =
    let is = judged_is s _ p J.told_is in
    (is, J.counted ∙ sym (accepted_overflows s (sym (ap (λ (q : Report). q.number) is))))
judging_says s (Err e) p J = refusal_says s e (judged_is s _ p J.told_is)

-- a verdict that is left by `?`, and one that is passed on
pub left_says : (s : List ℕ) (r : Result Judged Refused) (e : Refused) → IsErrAnd r (λ x. x ≡ e) → Says s (Err e) → Says s (judged_as r)
left_says s r e h p = let q = err_from_is_err_and r h in rw (q.1, q.2) p

-- the bounds of a verdict's numbers
pub count_most : (s : List ℕ) (f : Report) → f ≡ verdict_of s → f.count ≤ entries_of s * boxes_of s * cells_of s
count_most s f is = rw is (count_fits s)

pub overflows_most : (s : List ℕ) (n : ℕ) → n ≡ overflows_of s → n ≤ entries_of s
overflows_most s n is = rw is (overflows_fit s)
