-- From what the code finds in the array's bytes to what a query answers. Assumes nothing.
use Rattle.std.proofs.Common.{ℕ, ◌≡◌, ◌≤◌, ◌<◌, List, Bool, true, false, cond, refl, sym, ap, arith, length, take, ltb, eqb}
use Rattle.std.specs.Prelude.{Result, Ok, Err}
use native.Mathlib.Nat.{mul_comm}
use Rattle.std.specs.Result.{IsErr, IsErrAnd, result_or}
use Rattle.std.proofs.lemmas.Result.{err_from_is_err_and, IfOk-from_err}
use borrow.Author.Tests.{le-leb, lt-leb, lt-ltb, le-ltb, eqb-false, ne_eqb}
use Rattle.certificate.specs.declared.Report.{Report}
use Rattle.certificate.specs.Checks.{refusal, fine, need}
use Rattle.certificate.specs.Layout.{max_scale, entries_of, links_of, cap_of}
use Rattle.certificate.proofs.Tests.{need_pass, need_fail}
use Rattle.octets.specs.declared.refusals.Refused.{Refused}
use Rattle.octets.specs.Refusals.{report_of, told}
use Rattle.octets.proofs.Outcomes.{refuses_as}
use Rattle.judging.specs.Lookup.{entry_for, is_listed}
use Rattle.judging.specs.Asking.{is_proper, cell_fault}
use Rattle.judging.proofs.Asking.{proper_tells}
use Rattle.network.specs.Conditions.{screening_of}
use Rattle.reading.specs.declared.Certificate.{Certificate}
use Rattle.reading.specs.ReadingResults.{ReadAs}
use Rattle.cell_tables.specs.Tables.{QueuesFit}
use Rattle.asking.specs.declared.Found.{Found}
use Rattle.asking.specs.FoundEntries.{Answer, stored_fault, held_fault, HeldAs, showing, answer_of, found_at, not_found, cell_found}

-- what a refusal that is left by `?` answers
pub left_answer : (mode : ℕ) (r : Result Found Refused) (e : Refused) → IsErrAnd r (λ x. x ≡ e) → {f : Report} → report_of e ≡ f → answer_of mode r ≡ not_found f mode
left_answer mode r e h p = let q = err_from_is_err_and r h in rw (q.1, q.2, p)

-- an answer behind a test: the test refuses, or it passes and what follows answers
module _ (mode : ℕ) (next : Answer) (r : Result Found Refused) where
  pub turned_back : (b : Bool) (n : ℕ) (e : Refused) → IsErrAnd r (λ x. x ≡ e) → report_of e ≡ need b (refusal n 0) fine
      → answer_of mode r ≡ cond b next (not_found (refusal n 0) mode)
  unfolding need
  turned_back true n e h p = absurd (refuses_as e _ p refl)
  turned_back false n e h p = left_answer mode r e h p

  pub goes_on : (b : Bool) (n : ℕ) → eqb n 0 ≡ false → fine ≡ need b (refusal n 0) fine → answer_of mode r ≡ next → answer_of mode r ≡ cond b next (not_found (refusal n 0) mode)
  unfolding need
  goes_on true n some p e = e
  goes_on false n some p e = absurd (eqb-false n 0 some (sym (ap (λ (f : Report). f.number) p)))

-- a query that is proper may be asked for its cell
pub cell_asks : (s queues : List ℕ) (scale : ℕ) → is_proper s queues scale ≡ true → (length queues ≡ links_of s) × (scale ≤ max_scale) × QueuesFit s scale queues
cell_asks s queues scale ok =
    let p = (proper_tells s queues scale).0 ok in
    (p.number, p.scale_most, λ l lt. rw (mul_comm scale (cap_of s l)) (p.queue_most l lt))

-- the first n bytes of an array: there are fewer, or they are screened
module _ (bytes : List ℕ) (n : ℕ) where
  pub too_few : length bytes < n → (r : Result Certificate Refused) → IsErr r → told r ≡ refusal 18 0 → HeldAs bytes n r
  unfolding held_fault stored_fault need
  too_few h r e p = record { told_is = rw (lt-leb _ _ h) p; bytes_are = IfOk-from_err r _ e }

  fits : n ≤ length bytes → stored_fault bytes n ≡ screening_of (take n bytes)
  unfolding stored_fault
  fits h = need_pass _ _ _ (le-leb _ _ h)

  pub screened : n ≤ length bytes → (r : Result Certificate Refused) → ReadAs (take n bytes) (screening_of (take n bytes)) r
      → (e : Refused) → report_of e ≡ refusal 18 0 → HeldAs bytes n (result_or r (Err e))
  unfolding held_fault need
  screened h (Ok c) a e p = record { told_is = rw (fits h, ← a.told_is); bytes_are = a.bytes_are }
  screened h (Err d) a e p = record { told_is = rw (fits h, ← a.told_is, ne_eqb _ _ (refuses_as d _ refl)) p; bytes_are = tt }

-- what is found for a cell
module _ (s : List ℕ) (mode cell : ℕ) where
  listed : (e : ℕ) (b : Bool) → ltb e (entries_of s) ≡ b → e ≡ entry_for s cell mode → is_listed s cell mode ≡ b
  unfolding is_listed
  listed e b t is = rw (← is) t

  -- 19
  pub finds_none : {f : Report} → entries_of s ≡ entry_for s cell mode → f ≡ refusal 19 0 → not_found f mode ≡ cell_found s mode cell
  unfolding cell_found cell_fault
  finds_none is p =
      let fault : cell_fault s mode cell ≡ refusal 19 0 = need_fail _ _ _ (listed _ false (le-ltb _ _ (omega arith)) is) in
      rw (fault, p)

  pub finds : {e : ℕ} {found : Found} → e ≡ entry_for s cell mode → e < entries_of s → showing found ≡ found_at s e → showing found ≡ cell_found s mode cell
  unfolding cell_found cell_fault
  finds is inside p =
      let fault : cell_fault s mode cell ≡ fine = need_pass _ _ _ (listed _ true (lt-ltb _ _ inside) is) in
      rw (fault, ← is) p
