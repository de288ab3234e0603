-- Which entries may turn arrivals away, and how many (specs/Laws.antt). Assumes nothing.
use Prim.Native.Nat.{ℕ, zero, suc, ◌+◌, ◌*◌, ◌≤◌, ◌<◌}
use mathlib.Core.List.{List}
use mathlib.Core.Bool.{Bool, true, false, false≢true}
use mathlib.Core.Path.{◌≡◌, refl, sym, ◌∙◌}
use mathlib.Core.Logic.{⊎_elim}
use native.Mathlib.Nat.{eq-or-lt_of_le}
use native.Mathlib.Numerals.{add-one}
use native.Mathlib.Omega.{arith}
use borrow.Author.Tests.{eq-eqb, ne_eqb}
use lib.ListN.{take}
use lib.Seq.{take_all}
use Rattle.certificate.specs.Loops.{pick, sum_to}
use Rattle.certificate.specs.Layout.{max_length, boxes_of, entries_of, cell_of, signal_of}
use Rattle.certificate.proofs.Loops.{any_some, some_any}
use Rattle.certificate.proofs.Size.{readable_fits}
use Rattle.certificate.proofs.Tests.{passes}
use Rattle.network.specs.Network.{network_of, is_green, entry_limit}
use Rattle.network.specs.Flow.{gross, next}
use Rattle.network.specs.Laws.{Screened}
use Rattle.network.proofs.Screening.{entry_sound}
use Rattle.grid.specs.Laws.{ImageOf}
use Rattle.grid.proofs.Images.{image_is_smallest}
use Rattle.judging.specs.Verdict.{verdict_of}
use Rattle.judging.specs.Overflow.{box_overflows, entry_overflows, overflows_before, overflows_of}
use Rattle.judging.specs.Laws.{TurnsAway, EntryOverflows, NotCut, AcceptedOverflows, RefusedOverflows, OverflowsCount, OverflowsFit, NoneOverflows, OverflowsOfLong}
use Rattle.judging.proofs.Counting.{ones_most}
use Rattle.judging.proofs.Screens.{at_most_or_above}
use Rattle.judging.proofs.Verdicts.{accepted_is_plain, verdict_of_long}

-- the image of entry e's cell under box b is what it should be
module _ (s : List ℕ) (S : Screened s) (e : ℕ) (he : e < entries_of s) where
  image : (b : ℕ) → b < boxes_of s → ImageOf s (entry_limit s e) b (cell_of s e)
  image b hb = image_is_smallest s S.readable (is_green s (signal_of s e)) (entry_limit s e) (entry_sound s S e he) b (cell_of s e) hb

pub entry_overflows_lem : EntryOverflows
unfolding entry_overflows box_overflows
entry_overflows_lem s S e he = (there, back)
  where
    there : entry_overflows s e ≡ true → TurnsAway s e
    there h =
        let (b, hb, some) = any_some _ _ h in
        let (l, hl, over) = any_some _ _ some in
        record { box = b; link = l; box_exists = hb; link_exists = hl; exceeds = ((image s S e he b hb).over l hl).0 over }

    back : TurnsAway s e → entry_overflows s e ≡ true
    back T = some_any _ _ T.box T.box_exists (some_any _ _ T.link T.link_exists (((image s S e he T.box T.box_exists).over T.link T.link_exists).1 T.exceeds))

pub not_cut : NotCut
unfolding next
not_cut s S e he none b D x a hb hD inside arriving l hl =
    ⊎_elim
    (λ (fits : gross (network_of s) (entry_limit s e) D x a l ≤ 10000 * (D * (network_of s).cap l)). omega arith)
    (λ (above : 10000 * (D * (network_of s).cap l) < gross (network_of s) (entry_limit s e) D x a l).
    absurd (false≢true (sym none ∙ (entry_overflows_lem s S e he).1
    record {
      box = b;
      link = l;
      box_exists = hb;
      link_exists = hl;
      exceeds = record { scale = D; queues = x; arrivals = a; scale_least = hD; inside = inside; arriving = arriving; above = above };
    })))
    (at_most_or_above (gross (network_of s) (entry_limit s e) D x a l) (10000 * (D * (network_of s).cap l)))

pub accepted_overflows : AcceptedOverflows
unfolding overflows_of
accepted_overflows s z = rw (eq-eqb (verdict_of s).number 0 z)

pub refused_overflows : RefusedOverflows
unfolding overflows_of
refused_overflows s bad = rw (ne_eqb (verdict_of s).number 0 bad)

pub overflows_count : OverflowsCount
unfolding overflows_before sum_to
overflows_count s =
    record {
      none = refl;
      more = λ e over. rw (add-one, over) (omega arith);
      same = λ e under. rw (add-one, under) (omega arith);
    }

-- the entries before e that overflow are at most e
pub overflows_before_most : (s : List ℕ) (e : ℕ) → overflows_before s e ≤ e
unfolding overflows_before
overflows_before_most s e = ones_most e (entry_overflows s)

pub overflows_fit : OverflowsFit
overflows_fit s =
    ⊎_elim
    (λ (z : (verdict_of s).number ≡ 0). omega (arith, accepted_overflows s z, overflows_before_most s (entries_of s)))
    (λ (bad : (verdict_of s).number ≡ 0 → ⊥). omega (arith, refused_overflows s bad))
    (passes (verdict_of s))

-- where none of the first n indices is counted, the test fails of each
none_counted : (n : ℕ) (p : ℕ → Bool) → sum_to n (λ k. pick (p k) 1 0) ≡ 0 → (k : ℕ) → k < n → p k ≡ false
unfolding sum_to
none_counted zero p z k lt = absurd (omega arith)
none_counted (suc n) p z k lt =
    let le : k ≤ n = omega arith in
    ⊎_elim
    (λ (last : k ≡ n). rw last (fails (p n) (omega arith)))
    (λ (h : k < n). none_counted n p (omega arith) k h)
    (eq-or-lt_of_le le)
  where
    fails : (q : Bool) → pick q 1 0 ≡ 0 → q ≡ false
    fails true e = absurd (omega arith)
    fails false e = refl

pub none_overflows : NoneOverflows
unfolding overflows_before
none_overflows s accepted none = none_counted (entries_of s) (entry_overflows s) (sym (accepted_overflows s accepted) ∙ none)

pub overflows_of_long : OverflowsOfLong
overflows_of_long s =
    ⊎_elim
    (λ (z : (verdict_of s).number ≡ 0).
    let fits = readable_fits s ((accepted_is_plain s).0 z).0.readable in
    rw (take_all (max_length + 1) s (omega arith)))
    (λ (bad : (verdict_of s).number ≡ 0 → ⊥). refused_overflows s bad ∙ sym (refused_overflows (take (max_length + 1) s) (rw (verdict_of_long s) at bad)))
    (passes (verdict_of s))
