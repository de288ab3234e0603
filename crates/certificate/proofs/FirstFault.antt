-- Reading answers by the first record at fault: `fine` where there is none. Assumes nothing.
use Prim.Native.Nat.{ℕ, ◌<◌}
use mathlib.Core.List.{List}
use mathlib.Core.Path.{◌≡◌, refl, sym, ap, ◌∙◌}
use mathlib.Core.Logic.{◌↔◌, inl, inr, ⊎_elim}
use native.Mathlib.Omega.{arith}
use Rattle.certificate.specs.declared.Report.{Report}
use Rattle.certificate.specs.Checks.{refusal, fine, or_else, first_of, first_from, first_bad}
use Rattle.certificate.specs.Records.{header_fault, end_fault}
use Rattle.certificate.specs.Reading.{links_fault, turns_fault, signals_fault, modes_fault, grids_fault, arrivals_fault, entries_fault, reading_of}
use Rattle.certificate.specs.Facts.{PairBelow}
use Rattle.certificate.specs.Due.{Kind, HD, ZZ, order_of, many_of, Due}
use Rattle.certificate.proofs.Tests.{or_next, or_stop, passes, all_fine, fine_all, first_stop, FirstBad, first_bad_lem}
use Rattle.certificate.proofs.KindOrder.{kind_at, placed, order_at, same_order, line_marked, not-whole, not_wrong}
use Rattle.certificate.proofs.FieldTests.{Test, test_number, test_least, line_asks, one_broken}
use Rattle.certificate.proofs.Faults.{fault_of, line_place, Passes, Fault, too_short, wrong_mark, breaks, record_says, answer}

-- a record at fault does not pass, and has one refusal, whose number is not 0
module _ (s : List ℕ) (k : Kind) (i : ℕ) where
  at_fault : {r : Report} → Fault s k i r → Passes s k i → ⊥
  at_fault (too_short f e) p = not-whole s k i f p.0
  at_fault (wrong_mark f e) p = f.1 (line_marked s k i p.1)
  at_fault (breaks t same f e) p = f.3 (line_asks s i t (rw same p.1))

  one_refusal : {r t : Report} → Fault s k i r → Fault s k i t → r ≡ t
  one_refusal (too_short f e) (too_short g d) = e ∙ sym d
  one_refusal (too_short f e) (wrong_mark g d) = absurd (not_wrong s k i f g)
  one_refusal (too_short f e) (breaks u same g d) = absurd (not-whole s k i f (rw same at g.1))
  one_refusal (wrong_mark f e) (too_short g d) = absurd (not_wrong s k i g f)
  one_refusal (wrong_mark f e) (wrong_mark g d) = e ∙ sym d
  one_refusal (wrong_mark f e) (breaks u same g d) = absurd (f.1 (rw same at g.0))
  one_refusal (breaks t same f e) (too_short g d) = absurd (not-whole s k i g (rw same at f.1))
  one_refusal (breaks t same f e) (wrong_mark g d) = absurd (g.1 (rw same at f.0))
  one_refusal (breaks t same f e) (breaks u also g d) =
      e ∙ ap (λ (v : Test). refusal (test_number v) (line_place s k i)) (one_broken s i t u (same ∙ sym also) f g) ∙ sym d

  refuses : {r : Report} → Fault s k i r → r.number ≡ 0 → ⊥
  refuses {r} (too_short f e) z = let n : r.number ≡ 1 = ap (λ (t : Report). t.number) e in omega arith
  refuses {r} (wrong_mark f e) z = let n : r.number ≡ 2 = ap (λ (t : Report). t.number) e in omega arith
  refuses {r} (breaks t same f e) z = let n : r.number ≡ test_number t = ap (λ (v : Report). v.number) e in omega (arith, test_least t)

  -- its answer is `fine` or a refusal
  clean : (fault_of s k i).number ≡ 0 → fault_of s k i ≡ fine
  clean z = ⊎_elim (λ p. p.1) (λ f. absurd (refuses f z)) (answer s k i)

-- all records of a kind, and all of a place in the order
abbrev kind_fault : List ℕ → Kind → Report
kind_fault s k = first_bad (many_of s k) (fault_of s k)

place_fault : List ℕ → ℕ → Report
place_fault s n = kind_fault s (kind_at n)

alone : (f : Report) → (f.number ≡ 0 → f ≡ fine) → or_else f fine ≡ f
alone f h = ⊎_elim (λ z. or_next f fine z ∙ sym (h z)) (or_stop f fine) (passes f)

-- reading is a loop over the kinds
reading_loop : (s : List ℕ) → first_bad 9 (place_fault s) ≡ reading_of s
unfolding reading_of links_fault turns_fault signals_fault modes_fault grids_fault arrivals_fault entries_fault first_from first_of place_fault kind_at
reading_loop s = rw (alone (header_fault s) (clean s HD 0), alone (end_fault s) (clean s ZZ 0), alone (end_fault s) (clean s ZZ 0))

-- the record that is due, with its refusal
pub record FirstFault (s : List ℕ) (r : Report) : Type 0 where
  pub kind : Kind
  pub index : ℕ
  pub due : Due s kind index
  pub fault : Fault s kind index r

-- where a kind's records are the first that do not all pass, the first of them that does not is due
module _ (s : List ℕ) (k : Kind) (earlier : (j : Kind) → order_of j < order_of k → (kind_fault s j).number ≡ 0)
    (r : Report) (b : FirstBad (many_of s k) (fault_of s k) r) where
  before : (j : Kind) (h : ℕ) → h < many_of s j → PairBelow (order_of j) h (order_of k) b.at → Passes s j h
  before j h lt (inl less) = (record_says s j h).0 (all_fine (many_of s j) (fault_of s j) (earlier j less) h lt)
  before j h lt (inr (same, less)) = rw (same_order j k same) ((record_says s k h).0 (b.before h less))

  due_at : (r.number ≡ 0 → ⊥) → FirstFault s r
  due_at bad =
      record {
        kind = k;
        index = b.at;
        due = record { counted = b.inside; before = before };
        fault = ⊎_elim (λ p. absurd (bad (ap (λ (t : Report). t.number) (sym b.answer ∙ p.1)))) (λ f. rw b.answer at f) (answer s k b.at);
      }

-- a refusal of reading is that of a record that is due
pub first_fault : (s : List ℕ) → ((reading_of s).number ≡ 0 → ⊥) → FirstFault s (reading_of s)
unfolding place_fault
first_fault s bad = go (first_bad_lem 9 (place_fault s) (rw (reading_loop s) bad))
  where
    go : FirstBad 9 (place_fault s) (first_bad 9 (place_fault s)) → FirstFault s (reading_of s)
    go p =
        let k : Kind = kind_at p.at in
        let here : kind_fault s k ≡ reading_of s = p.answer ∙ reading_loop s in
        let place : order_of k ≡ p.at = order_at p.at p.inside in
        let earlier : (j : Kind) → order_of j < order_of k → (kind_fault s j).number ≡ 0 = λ j less. rw (placed j).at at (p.before (order_of j) (omega arith)) in
        rw here at (due_at s k earlier _ (first_bad_lem (many_of s k) (fault_of s k) (rw here bad)) (rw here bad))

-- the refusal of the record that is due is that of reading
pub fault_first : (s : List ℕ) (r : Report) → FirstFault s r → reading_of s ≡ r
unfolding place_fault
fault_first s r f = sym (reading_loop s) ∙ among_kinds ∙ among_records ∙ here
  where
    here : fault_of s f.kind f.index ≡ r
    here = ⊎_elim (λ p. absurd (at_fault s _ _ f.fault p.0)) (λ g. one_refusal s _ _ g f.fault) (answer s f.kind f.index)

    bad : (fault_of s f.kind f.index).number ≡ 0 → ⊥
    bad z = refuses s _ _ f.fault (rw here at z)

    among_records : kind_fault s f.kind ≡ fault_of s f.kind f.index
    among_records =
        first_stop _ _ f.index f.due.counted
        (λ h less. (record_says s f.kind h).1 (f.due.before f.kind h (omega (arith, f.due.counted)) (inr (refl, less))))
        bad

    passed : (n : ℕ) → n < order_of f.kind → (place_fault s n).number ≡ 0
    passed n less =
        let place : order_of (kind_at n) ≡ n = order_at n (omega (arith, (placed f.kind).below)) in
        rw (fine_all (many_of s (kind_at n)) (fault_of s (kind_at n)) (λ h lt. (record_says s (kind_at n) h).1 (f.due.before (kind_at n) h lt (inl (omega arith)))))

    among_kinds : first_bad 9 (place_fault s) ≡ kind_fault s f.kind
    among_kinds =
        rw (placed f.kind).at at (first_stop 9 (place_fault s) (order_of f.kind) (placed f.kind).below passed (rw ((placed f.kind).at, among_records) bad))

pub reading_law : (s : List ℕ) (r : Report) → (r.number ≡ 0 → ⊥) → (reading_of s ≡ r) ↔ FirstFault s r
reading_law s r bad = ((λ e. rw e at (first_fault s (rw e bad))), fault_first s r)
