-- Judging goes entry by entry: an entry judged alone is a refusal, which is the answer, or passes its count on. Assumes nothing.
use Prim.Native.Nat.{ℕ, zero, suc, ◌+◌, ◌≤◌, ◌<◌}
use mathlib.Core.List.{List}
use mathlib.Core.Bool.{Bool}
use mathlib.Core.Path.{◌≡◌, refl, sym, ap, ◌∙◌}
use mathlib.Core.Logic.{⊎_elim}
use native.Mathlib.Numerals.{add-one}
use Rattle.certificate.specs.declared.Report.{Report}
use Rattle.certificate.specs.Loops.{pick, sum_to, loop_from}
use Rattle.certificate.specs.Checks.{fine}
use Rattle.certificate.specs.Layout.{boxes_of, entries_of}
use Rattle.certificate.proofs.Tests.{passes, or_next, or_stop}
use Rattle.certificate.proofs.Loops.{loop_round, loop_end}
use Rattle.octets.specs.declared.refusals.Refused.{Refused}
use Rattle.octets.specs.Refusals.{report_of}
use Rattle.octets.proofs.Outcomes.{refuses_as, stands, then_next}
use Rattle.judging.specs.EntryTests.{standing_fault, box_round, entry_round, accepted, judging_from}
use Rattle.judging.specs.Overflow.{entry_overflows, overflows_before}
use Rattle.entry_search.specs.Search.{boxes_from}
use Rattle.entry_search.proofs.Regular.{after, after_pass, after_stop, Regular, loop_regular, box_regular}
use Rattle.verdict.specs.Entries.{entry_alone}

entry_regular : (s : List ℕ) → Regular (entry_round s)
unfolding entry_round
entry_regular s e n next =
    let f = standing_fault s e n in
    ⊎_elim
    (λ (z : f.number ≡ 0).
    or_next f _ z
    ∙ loop_regular (box_round s e) (box_regular s e) (boxes_of s) 0 n next
    ∙ ap (λ (q : Report). after q next) (sym (or_next f (loop_from (box_round s e) accepted (boxes_of s) 0 n) z)))
    (λ (z : f.number ≡ 0 → ⊥).
    or_stop f _ z
    ∙ sym (ap (λ (q : Report). after q next) (or_stop f (loop_from (box_round s e) accepted (boxes_of s) 0 n) z) ∙ after_stop f next z))
    (passes f)

-- an entry judged alone: its standing, then its search
module _ (s : List ℕ) (e n : ℕ) where
  pub not_standing : (r : Refused) → report_of r ≡ standing_fault s e n → report_of r ≡ entry_alone s e n
  unfolding entry_alone entry_round
  not_standing r p = stands r _ _ p

  pub searched : (r : Report) → fine ≡ standing_fault s e n → r ≡ boxes_from s e 0 n → r ≡ entry_alone s e n
  unfolding entry_alone entry_round boxes_from
  searched r p q = then_next _ _ _ p q

-- one entry more: it counts where it overflows
pub one_more : (s : List ℕ) (e : ℕ) {n one : ℕ} {over : Bool} → n ≡ overflows_before s e → over ≡ entry_overflows s e → one ≡ pick over 1 0
    → n + one ≡ overflows_before s (e + 1)
unfolding overflows_before sum_to
one_more s e before over is = rw (add-one, before, is, over)

pub none_before : (s : List ℕ) → 0 ≡ overflows_before s 0
unfolding overflows_before sum_to
none_before s = refl

-- the loop over entries: the next one, left by `?`, the end
module _ (s : List ℕ) (e n : ℕ) (t : Report) where
  round : e < entries_of s → judging_from s e n ≡ t → entry_round s e n (judging_from s (e + 1)) ≡ t
  unfolding judging_from
  round lt p = sym (loop_round (entry_round s) accepted (entries_of s) e n lt) ∙ p

  whole : (r : Report) → r ≡ entry_alone s e n → entry_round s e n (judging_from s (e + 1)) ≡ after r (judging_from s (e + 1))
  unfolding entry_alone
  whole r alone = entry_regular s e n _ ∙ ap (λ (q : Report). after q (judging_from s (e + 1))) (sym alone)

  pub next_entry : (k : ℕ) → e < entries_of s → accepted k ≡ entry_alone s e n → judging_from s e n ≡ t → judging_from s (e + 1) k ≡ t
  next_entry k lt alone p = sym (whole (accepted k) alone ∙ after_pass (accepted k) _ refl) ∙ round lt p

  pub stop_entry : (r : Refused) → e < entries_of s → report_of r ≡ entry_alone s e n → judging_from s e n ≡ t → report_of r ≡ t
  stop_entry r lt alone p = sym (whole (report_of r) alone ∙ after_stop (report_of r) _ (refuses_as r _ refl)) ∙ round lt p

  pub end_entries : entries_of s ≤ e → judging_from s e n ≡ t → accepted n ≡ t
  unfolding judging_from
  end_entries ge p = sym (loop_end (entry_round s) accepted (entries_of s) e n ge) ∙ p
