-- Each answer of a comparison, in plain terms. Assumes nothing.
use Prim.Native.Nat.{ℕ, zero, suc, ◌+◌}
use mathlib.Core.List.{List}
use mathlib.Core.Bool.{Bool, true, false, false≢true}
use mathlib.Core.Logic.{◌↔◌, ⊎_elim}
use mathlib.Core.Path.{◌≡◌, refl, sym, ap, ◌∙◌}
use native.Mathlib.Omega.{arith}
use borrow.Author.Tests.{eq-eqb, ne_eqb}
use lib.ListN.{take}
use lib.Seq.{take_all}
use Rattle.certificate.specs.declared.Report.{Report}
use Rattle.certificate.specs.Layout.{max_length}
use Rattle.certificate.specs.Checks.{fine}
use Rattle.certificate.proofs.Tests.{passes, or_next, or_stop}
use Rattle.certificate.proofs.Size.{readable_fits}
use Rattle.judging.specs.Verdict.{verdict_of}
use Rattle.judging.proofs.Deciding.{Tells, tells_false}
use Rattle.judging.proofs.Verdicts.{accepted_is_plain, verdict_of_long}
use Rattle.covering.specs.declared.Comparison.TheVariants.{Refused}
use Rattle.covering.specs.Covering.{covers, Covers}
use Rattle.covering.specs.Comparing.{better_of, or_refused, comparison_of, report_of, better_number, compared_report}
use Rattle.covering.specs.Laws.{Accepted, ComparisonIs, NumberIs, ComparisonOfLong}
use Rattle.covering.proofs.Order.{covers_is_plain}

-- whether the first and whether the second covers, read off the number of the answer
first_covers : ℕ → Bool
first_covers zero = false
first_covers (suc zero) = true
first_covers (suc (suc zero)) = true
first_covers (suc (suc (suc n))) = false

second_covers : ℕ → Bool
second_covers zero = false
second_covers (suc zero) = true
second_covers (suc (suc zero)) = false
second_covers (suc (suc (suc zero))) = true
second_covers (suc (suc (suc (suc n)))) = false

by_first : (p q : Bool) → first_covers (better_number (better_of p q)) ≡ p
unfolding first_covers
by_first true true = refl
by_first true false = refl
by_first false true = refl
by_first false false = refl

by_second : (p q : Bool) → second_covers (better_number (better_of p q)) ≡ q
unfolding second_covers
by_second true true = refl
by_second true false = refl
by_second false true = refl
by_second false false = refl

-- the number of an answer stands for both tests, and so does the answer
number_when : (p q x y : Bool) → (better_number (better_of p q) ≡ better_number (better_of x y)) ↔ ((p ≡ x) × (q ≡ y))
number_when p q x y = (
  (λ e. (sym (by_first p q) ∙ ap first_covers e ∙ by_first x y, sym (by_second p q) ∙ ap second_covers e ∙ by_second x y)),
  (λ (a, b). rw (a, b)),
)

better_when : (p q x y : Bool) → (better_of p q ≡ better_of x y) ↔ ((p ≡ x) × (q ≡ y))
better_when p q x y = ((λ e. (number_when p q x y).0 (ap better_number e)), (λ (a, b). rw (a, b)))

-- a test that fails
tells_not : {A : Type 0} (p : Bool) → Tells p A → (p ≡ false) ↔ (A → ⊥)
tells_not p t = ((λ e a. false≢true (sym e ∙ t.1 a)), tells_false p t)

both_ways : {A B C D : Type 0} → A ↔ B → C ↔ D → (A × C) ↔ (B × D)
both_ways f g = ((λ (a, c). (f.0 a, g.0 c)), (λ (b, d). (f.1 b, g.1 d)))

then_ways : {A B C : Type 0} → A ↔ B → B ↔ C → A ↔ C
then_ways f g = ((λ a. g.0 (f.0 a)), (λ c. f.1 (g.1 c)))

module _ (s t : List ℕ) where
  refused_first : (Accepted s → ⊥) → comparison_of s t ≡ Refused (verdict_of s)
  unfolding comparison_of or_refused
  refused_first bad = rw (ne_eqb (verdict_of s).number 0 bad)

  refused_second : Accepted s → (Accepted t → ⊥) → comparison_of s t ≡ Refused (verdict_of t)
  unfolding comparison_of or_refused
  refused_second ok bad = rw (eq-eqb (verdict_of s).number 0 ok, ne_eqb (verdict_of t).number 0 bad)

  pub both_accepted : Accepted s → Accepted t → comparison_of s t ≡ better_of (covers s t) (covers t s)
  unfolding comparison_of or_refused
  both_accepted ok fine = rw (eq-eqb (verdict_of s).number 0 ok, eq-eqb (verdict_of t).number 0 fine)

  module _ (ok : Accepted s) (good : Accepted t) where
    one : Tells (covers s t) (Covers s t)
    one = covers_is_plain s t ((accepted_is_plain s).0 ok).0.readable

    two : Tells (covers t s) (Covers t s)
    two = covers_is_plain t s ((accepted_is_plain t).0 good).0.readable

    answer : (x y : Bool) → (comparison_of s t ≡ better_of x y) ↔ ((covers s t ≡ x) × (covers t s ≡ y))
    answer x y = rw (both_accepted ok good) (better_when (covers s t) (covers t s) x y)

    number : (x y : Bool) → (better_number (comparison_of s t) ≡ better_number (better_of x y)) ↔ ((covers s t ≡ x) × (covers t s ≡ y))
    number x y = rw (both_accepted ok good) (number_when (covers s t) (covers t s) x y)

  none_better : (Accepted s × Accepted t → ⊥) → better_number (comparison_of s t) ≡ 0
  none_better bad =
      ⊎_elim (λ (ok : Accepted s). ap better_number (refused_second ok (λ good. bad (ok, good)))) (λ (no : Accepted s → ⊥). ap better_number (refused_first no)) (passes (verdict_of s))

  report_of_lem : report_of (comparison_of s t) ≡ compared_report s t
  report_of_lem =
      ⊎_elim
      (λ (ok : Accepted s).
      ⊎_elim
      (λ (good : Accepted t).
      ap report_of (both_accepted ok good) ∙ succeeds (covers s t) (covers t s)
      ∙ sym (or_next (verdict_of s) _ ok ∙ or_next (verdict_of t) fine good))
      (λ (bad : Accepted t → ⊥).
      ap report_of (refused_second ok bad) ∙ sym (or_next (verdict_of s) _ ok ∙ or_stop (verdict_of t) fine bad))
      (passes (verdict_of t)))
      (λ (bad : Accepted s → ⊥). ap report_of (refused_first bad) ∙ sym (or_stop (verdict_of s) _ bad))
      (passes (verdict_of s))
    where
      succeeds : (p q : Bool) → report_of (better_of p q) ≡ fine
      succeeds true true = refl
      succeeds true false = refl
      succeeds false true = refl
      succeeds false false = refl

-- both tests in plain terms, each passed or not
module _ (s t : List ℕ) (ok : Accepted s) (good : Accepted t) where
  each_covers : ((covers s t ≡ true) × (covers t s ≡ true)) ↔ (Covers s t × Covers t s)
  each_covers = both_ways (one s t ok good) (two s t ok good)

  first_alone : ((covers s t ≡ true) × (covers t s ≡ false)) ↔ (Covers s t × (Covers t s → ⊥))
  first_alone = both_ways (one s t ok good) (tells_not _ (two s t ok good))

  second_alone : ((covers s t ≡ false) × (covers t s ≡ true)) ↔ ((Covers s t → ⊥) × Covers t s)
  second_alone = both_ways (tells_not _ (one s t ok good)) (two s t ok good)

  none_covers : ((covers s t ≡ false) × (covers t s ≡ false)) ↔ ((Covers s t → ⊥) × (Covers t s → ⊥))
  none_covers = both_ways (tells_not _ (one s t ok good)) (tells_not _ (two s t ok good))

pub comparison_is : ComparisonIs
comparison_is s t =
    record {
      equal = λ ok good. then_ways (answer s t ok good true true) (each_covers s t ok good);
      first = λ ok good. then_ways (answer s t ok good true false) (first_alone s t ok good);
      second = λ ok good. then_ways (answer s t ok good false true) (second_alone s t ok good);
      neither = λ ok good. then_ways (answer s t ok good false false) (none_covers s t ok good);
      first_refused = refused_first s t;
      second_refused = refused_second s t;
      report = report_of_lem s t;
    }

pub number_is : NumberIs
number_is s t =
    record {
      equal = λ ok good. then_ways (number s t ok good true true) (each_covers s t ok good);
      first = λ ok good. then_ways (number s t ok good true false) (first_alone s t ok good);
      second = λ ok good. then_ways (number s t ok good false true) (second_alone s t ok good);
      neither = λ ok good. then_ways (number s t ok good false false) (none_covers s t ok good);
      refused = none_better s t;
    }

-- a byte string is accepted by its front, and then it is its front
front_accepted : (s : List ℕ) → Accepted s → take (max_length + 1) s ≡ s
front_accepted s ok = take_all (max_length + 1) s (omega (arith, readable_fits s ((accepted_is_plain s).0 ok).0.readable))

pub comparison_of_long : ComparisonOfLong
comparison_of_long s t = ⊎_elim first_passes first_fails (passes (verdict_of s))
  where
    front : List ℕ → List ℕ
    front u = take (max_length + 1) u

    fails : (u : List ℕ) → (Accepted u → ⊥) → Accepted (front u) → ⊥
    fails u bad ok = bad (ap (λ (r : Report). r.number) (verdict_of_long u) ∙ ok)

    first_fails : (Accepted s → ⊥) → comparison_of s t ≡ comparison_of (front s) (front t)
    first_fails bad = refused_first s t bad ∙ ap Refused (verdict_of_long s) ∙ sym (refused_first (front s) (front t) (fails s bad))

    second_fails : Accepted s → (Accepted t → ⊥) → comparison_of s t ≡ comparison_of s (front t)
    second_fails ok bad = refused_second s t ok bad ∙ ap Refused (verdict_of_long t) ∙ sym (refused_second s (front t) ok (fails t bad))

    first_passes : Accepted s → comparison_of s t ≡ comparison_of (front s) (front t)
    first_passes ok =
        rw (front_accepted s ok)
        (⊎_elim (λ (good : Accepted t). rw (front_accepted t good)) (λ (bad : Accepted t → ⊥). second_fails ok bad) (passes (verdict_of t)))
