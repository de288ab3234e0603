-- Each refusal of reading in plain terms (specs/Laws.antt), for reading and for whatever answers as it does. Assumes nothing.
use Prim.Native.Nat.{ℕ, ◌+◌, ◌≤◌}
use mathlib.Core.List.{List}
use mathlib.Core.Path.{◌≡◌, refl, sym, ap, ◌∙◌}
use mathlib.Core.Logic.Iff
use mathlib.Core.Logic.{◌↔◌, ◌⊎◌, inl, inr, ⊎_elim}
use native.Mathlib.Omega.{arith}
use lib.ListN.{length}
use Rattle.certificate.specs.declared.Report.{Report}
use Rattle.certificate.specs.Checks.{report_with, refusal}
use Rattle.certificate.specs.Layout.{end_size, end_at}
use Rattle.certificate.specs.Reading.{reading_of}
use Rattle.certificate.specs.Due.{Kind, HD, LK, TN, SG, MD, GR, AR, EN, ZZ, field_number, record_at, Line, Due, TooShort, WrongMark, BrokenLine, MissingName, WrongOrder, OtherSignal, OtherGoal}
use Rattle.certificate.specs.Laws.{ReadingNumber, up_to_nine, DueAt, GoesOnAt, BrokenAt, RefusedField, RefusedSignal, Refusals, ReadingRefuses}
use Rattle.certificate.proofs.FieldTests.{Test, fields, order, memory, goal, kind_of, test_number, Asks, Broken, test_least, test_number_lem, same_test, number_six, broken_line, missing_name, wrong_order, other_signal, other_goal}
use Rattle.certificate.proofs.Faults.{line_place, Fault, too_short, wrong_mark, breaks}
use Rattle.certificate.proofs.FirstFault.{FirstFault, reading_law}

-- a result is a refusal, part by part
record Parts (m a b n k o : ℕ) : Type 0 where
  number : m ≡ k
  place : a ≡ o
  alone : b ≡ 0
  no_count : n ≡ 0

parts : (m a b n k o : ℕ) → report_with m a b n ≡ refusal k o → Parts m a b n k o
parts m a b n k o e =
    record {
      number = ap (λ (r : Report). r.number) e;
      place = ap (λ (r : Report). r.a) e;
      alone = ap (λ (r : Report). r.b) e;
      no_count = ap (λ (r : Report). r.count) e;
    }

-- a field's refusal names the record's start
test_place : (s : List ℕ) (t : Test) (i : ℕ) → 3 ≤ test_number t → line_place s (kind_of t) i ≡ record_at s (kind_of t) i
test_place s (fields HD) i least = refl
test_place s (fields LK) i least = refl
test_place s (fields TN) i least = refl
test_place s (fields SG) i least = refl
test_place s (fields MD) i least = refl
test_place s (fields GR) i least = refl
test_place s (fields AR) i least = refl
test_place s (fields EN) i least = refl
test_place s (fields ZZ) i least = absurd (omega arith)
test_place s order i least = refl
test_place s memory i least = refl
test_place s goal i least = refl

-- what the record that is due says of a result
module _ (s : List ℕ) (a b n : ℕ) where
  short_law : FirstFault s (report_with 1 a b n) ↔ (DueAt TooShort s a × (b ≡ 0) × (n ≡ 0))
  short_law = ((λ f. there f.kind f.index f.due f.fault), back)
    where
      there : (k : Kind) (i : ℕ) → Due s k i → Fault s k i (report_with 1 a b n) → DueAt TooShort s a × (b ≡ 0) × (n ≡ 0)
      there k i due (too_short f e) = let p = parts _ _ _ _ _ _ e in ((k, i, due, f, p.place), p.alone, p.no_count)
      there k i due (wrong_mark f e) = let p = parts _ _ _ _ _ _ e in absurd (omega arith)
      there k i due (breaks t same f e) = let p = parts _ _ _ _ _ _ e in absurd (omega (arith, test_least t))

      back : DueAt TooShort s a × (b ≡ 0) × (n ≡ 0) → FirstFault s (report_with 1 a b n)
      back ((k, i, due, f, place), alone, no_count) = record { kind = k; index = i; due = due; fault = too_short f (rw (place, alone, no_count)) }

  mark_law : FirstFault s (report_with 2 a b n) ↔ ((DueAt WrongMark s a ⊎ GoesOnAt s a) × (b ≡ 0) × (n ≡ 0))
  mark_law = ((λ f. there f.kind f.index f.due f.fault), back)
    where
      goes_on : (i : ℕ) → Due s ZZ i → BrokenLine s ZZ i → a ≡ end_at s + end_size → GoesOnAt s a
      goes_on i due (mark, whole, broken) place =
          let first : i ≡ 0 = omega (arith, due.counted) in
          let more : length s ≡ end_at s + end_size → ⊥ = λ e. broken (mark, e) in
          (rw first at due, mark, omega arith, place)

      there : (k : Kind) (i : ℕ) → Due s k i → Fault s k i (report_with 2 a b n) → (DueAt WrongMark s a ⊎ GoesOnAt s a) × (b ≡ 0) × (n ≡ 0)
      there k i due (too_short f e) = let p = parts _ _ _ _ _ _ e in absurd (omega arith)
      there k i due (wrong_mark f e) = let p = parts _ _ _ _ _ _ e in (inl (k, i, due, f, p.place), p.alone, p.no_count)
      there k i due (breaks t same f e) =
          let p = parts _ _ _ _ _ _ e in
          let test : t ≡ fields ZZ = same_test t (fields ZZ) (sym p.number) (omega arith) in
          let kind : k ≡ ZZ = sym same ∙ ap kind_of test in
          (inr (goes_on i (rw kind at due) ((broken_line s i ZZ Iff.rfl).0 (rw test at f)) (rw kind at p.place)), p.alone, p.no_count)

      back : (DueAt WrongMark s a ⊎ GoesOnAt s a) × (b ≡ 0) × (n ≡ 0) → FirstFault s (report_with 2 a b n)
      back (inl (k, i, due, f, place), alone, no_count) = record { kind = k; index = i; due = due; fault = wrong_mark f (rw (place, alone, no_count)) }
      back (inr (due, mark, more, place), alone, no_count) =
          record { kind = ZZ; index = 0; due = due; fault = breaks (fields ZZ) refl ((broken_line s 0 ZZ Iff.rfl).1 (mark, omega arith, λ line. omega (arith, line.1))) (rw (place, alone, no_count)) }

  -- from 3 on: some test of that number is the first that fails
  test_law : (m : ℕ) → 3 ≤ m
      → FirstFault s (report_with m a b n)
      ↔ (((t : Test) × (test_number t ≡ m) × (i : ℕ) × Due s (kind_of t) i × Broken s t i × (a ≡ record_at s (kind_of t) i)) × (b ≡ 0) × (n ≡ 0))
  test_law m least = ((λ f. there f.kind f.index f.due f.fault), back)
    where
      there : (k : Kind) (i : ℕ) → Due s k i → Fault s k i (report_with m a b n)
          → ((t : Test) × (test_number t ≡ m) × (h : ℕ) × Due s (kind_of t) h × Broken s t h × (a ≡ record_at s (kind_of t) h)) × (b ≡ 0) × (n ≡ 0)
      there k i due (too_short f e) = let p = parts _ _ _ _ _ _ e in absurd (omega arith)
      there k i due (wrong_mark f e) = let p = parts _ _ _ _ _ _ e in absurd (omega arith)
      there k i due (breaks t same f e) =
          let p = parts _ _ _ _ _ _ e in
          ((t, sym p.number, i, rw (← same) at due, f, rw (← same) at p.place ∙ test_place s t i (omega arith)), p.alone, p.no_count)

      back : ((t : Test) × (test_number t ≡ m) × (i : ℕ) × Due s (kind_of t) i × Broken s t i × (a ≡ record_at s (kind_of t) i)) × (b ≡ 0) × (n ≡ 0) → FirstFault s (report_with m a b n)
      back ((t, number, i, due, f, place), alone, no_count) =
          record { kind = kind_of t; index = i; due = due; fault = breaks t refl f (rw (place, alone, no_count, number, test_place s t i (omega arith))) }

-- whatever answers as reading does where a number is one of reading's refusals
module _ (answer : List ℕ → Report) (alike : (s : List ℕ) (r : Report) → (r.number ≡ 0 → ⊥) → ReadingNumber r.number → (answer s ≡ r) ↔ (reading_of s ≡ r)) where
  by_due : (s : List ℕ) (m a b n : ℕ) → 1 ≤ m → ReadingNumber m → (answer s ≡ report_with m a b n) ↔ FirstFault s (report_with m a b n)
  by_due s m a b n least number = let bad : m ≡ 0 → ⊥ = omega arith in Iff.trans (alike s _ bad number) (reading_law s _ bad)

  by_number : (m : ℕ) → 3 ≤ m → ReadingNumber m → (s : List ℕ) (a b n : ℕ)
      → (answer s ≡ report_with m a b n)
      ↔ (((t : Test) × (test_number t ≡ m) × (i : ℕ) × Due s (kind_of t) i × Broken s t i × (a ≡ record_at s (kind_of t) i)) × (b ≡ 0) × (n ≡ 0))
  by_number m least number s a b n = Iff.trans (by_due s m a b n (omega arith) number) (test_law s a b n m least)

  -- a test that is told by its number, and what it says of a record where it is the first that fails
  by_test : (t : Test) → 3 ≤ test_number t → (test_number t ≡ 6 → ⊥) → (X : List ℕ → ℕ → Type 0) → ((s : List ℕ) (i : ℕ) → Broken s t i ↔ X s i)
      → (s : List ℕ) (a b n : ℕ)
      → (answer s ≡ report_with (test_number t) a b n) ↔ (((i : ℕ) × Due s (kind_of t) i × X s i × (a ≡ record_at s (kind_of t) i)) × (b ≡ 0) × (n ≡ 0))
  by_test t least other X says s a b n =
      Iff.trans (by_number (test_number t) least (test_number_lem t) s a b n) (
        (λ ((u, number, i, due, f, place), alone, no_count).
            let test : u ≡ t = same_test u t number other in
            ((i, rw test at due, (says s i).0 (rw test at f), rw test at place), alone, no_count)),
        (λ ((i, due, f, place), alone, no_count). ((t, refl, i, due, (says s i).1 f, place), alone, no_count)),
      )

  -- 6 is the number of two kinds
  refused_signal : RefusedSignal answer
  refused_signal s a b n =
      Iff.trans (by_number 6 (omega arith) (up_to_nine (omega arith)) s a b n) (
        (λ ((t, number, i, due, f, place), alone, no_count). (
          ⊎_elim
              (λ (test : t ≡ fields SG). inl (i, rw test at due, (broken_line s i SG Iff.rfl).0 (rw test at f), rw test at place))
              (λ (test : t ≡ fields MD). inr (i, rw test at due, (broken_line s i MD Iff.rfl).0 (rw test at f), rw test at place))
              (number_six t number),
          alone,
          no_count,
        )),
        back,
      )
    where
      back : (BrokenAt SG s a ⊎ BrokenAt MD s a) × (b ≡ 0) × (n ≡ 0)
          → ((t : Test) × (test_number t ≡ 6) × (i : ℕ) × Due s (kind_of t) i × Broken s t i × (a ≡ record_at s (kind_of t) i)) × (b ≡ 0) × (n ≡ 0)
      back (inl (i, due, f, place), alone, no_count) = ((fields SG, refl, i, due, (broken_line s i SG Iff.rfl).1 f, place), alone, no_count)
      back (inr (i, due, f, place), alone, no_count) = ((fields MD, refl, i, due, (broken_line s i MD Iff.rfl).1 f, place), alone, no_count)

  refused_field : (k : Kind) → 3 ≤ field_number k → (field_number k ≡ 6 → ⊥) → ((s : List ℕ) (i : ℕ) → Asks s (fields k) i ↔ Line s k i) → RefusedField k answer
  refused_field k least other same = by_test (fields k) least other (λ s i. BrokenLine s k i) (λ s i. broken_line s i k (same s i))

  pub refusals : Refusals answer
  refusals =
      record {
        short = λ s a b n. Iff.trans (by_due s 1 a b n (omega arith) (up_to_nine (omega arith))) (short_law s a b n);
        mark = λ s a b n. Iff.trans (by_due s 2 a b n (omega arith) (up_to_nine (omega arith))) (mark_law s a b n);
        header = refused_field HD (omega arith) (omega arith) (λ s i. Iff.rfl);
        link = refused_field LK (omega arith) (omega arith) (λ s i. Iff.rfl);
        turn = refused_field TN (omega arith) (omega arith) (λ s i. Iff.rfl);
        signal = refused_signal;
        grid = refused_field GR (omega arith) (omega arith) (λ s i. Iff.rfl);
        arrival = refused_field AR (omega arith) (omega arith) (λ s i. Iff.rfl);
        name = by_test (fields EN) (omega arith) (omega arith) MissingName missing_name;
        order = by_test order (omega arith) (omega arith) WrongOrder wrong_order;
        memory = by_test memory (omega arith) (omega arith) OtherSignal other_signal;
        goal = by_test goal (omega arith) (omega arith) OtherGoal other_goal;
      }

pub reading_refuses : ReadingRefuses
reading_refuses = refusals reading_of (λ s r bad number. Iff.rfl)
