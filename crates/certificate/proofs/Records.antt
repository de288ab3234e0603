-- What the tests of each record say (specs/Records.antt), in the plain terms of specs/Facts.antt, both ways. Assumes nothing.
use Prim.Native.Nat.{ℕ, zero, suc, ◌+◌, ◌-◌, ◌≤◌, ◌<◌}
use mathlib.Core.Bool.{Bool, true, false, not, ◌||◌, false≢true}
use mathlib.Core.List.{List}
use mathlib.Core.Path.{◌≡◌, refl}
use mathlib.Core.Logic.Iff
use mathlib.Core.Logic.{◌↔◌, ◌⊎◌, inl, inr, ⊎_elim}
use native.Mathlib.Omega.{arith}
use borrow.Author.Tests.{le-leb, eqb-true, eq-eqb}
use lib.ListN.{length}
use lib.Dec.{leb, eqb}
use Rattle.certificate.specs.Checks.{fine}
use Rattle.certificate.specs.Layout.{header_size, link_size, turn_size, signal_size, mode_size, grid_size, arrival_size, entry_size, end_size, links_of, modes_of, remembers, link_at, turn_at, signal_at, mode_at, shown_before, grid_at, intervals_of, cut_of, cap_of, arrival_at, entry_at, signal_of, next_mode_of, end_at}
use Rattle.certificate.specs.Records.{header_ok, header_marked, header_fault, link_ok, link_fault, turn_ascends, share_total, turn_ok, turn_fault, signal_ok, signal_fault, mode_ok, mode_fault, cut_before, cut_ok, cut_fault, count_ok, grid_fault, range_ok, range_fault, arrival_fault, names_exist, entry_ascends, passes_on, entry_fault, end_fault}
use Rattle.certificate.specs.Facts.{Mark, HeaderMark, HeaderFacts, LinkFacts, TurnFacts, SignalFacts, ModeFacts, NumbersUsed, GridFacts, BoxFacts, EntryFacts, PassesOn, TurnsOn}
use Rattle.certificate.specs.Due.{GoalsAgree}
use Rattle.certificate.proofs.Says.{says, marked_says}
use Rattle.certificate.proofs.Ascending.{all_ascend}
use Rattle.certificate.proofs.KindSizes.{link_least, mode_least}
use Rattle.certificate.proofs.Goals.{goals_say, turns_say}

-- the record of that size at o ends within s
abbrev pub Within : List ℕ → ℕ → ℕ → Type 0
Within s o size = o + size ≤ length s

-- one test or the other holds
either_says : (a b : Bool) → ((a || b) ≡ true) ↔ ((a ≡ true) ⊎ (b ≡ true))
either_says true b = ((λ e. inl refl), (λ h. refl))
either_says false b = (inr, ⊎_elim (λ e. absurd (false≢true e)) (λ e. e))

both_say : {a b : Bool} {A B : Type 0} → (a ≡ true) ↔ A → (b ≡ true) ↔ B → ((a || b) ≡ true) ↔ (A ⊎ B)
both_say {a} {b} p q = (
  (λ e. ⊎_elim (λ h. inl (p.0 h)) (λ h. inr (q.0 h)) ((either_says a b).0 e)),
  (λ m. (either_says a b).1 (⊎_elim (λ h. inl (p.1 h)) (λ h. inr (q.1 h)) m)),
)

regrouped : {A B C : Type 0} → ((A ⊎ B) ⊎ C) ↔ (A ⊎ B ⊎ C)
regrouped = (⊎_elim (⊎_elim inl (λ b. inr (inl b))) (λ c. inr (inr c)), ⊎_elim (λ a. inl (inl a)) (⊎_elim (λ b. inl (inr b)) inr))

pub header_marked_says : (s : List ℕ) → (header_marked s ≡ true) ↔ HeaderMark s
unfolding header_marked
header_marked_says s =
    Iff.trans (both_say (both_say (marked_says s 0 72 68) (marked_says s 0 72 50)) (marked_says s 0 72 51)) regrouped

pub header_says : (s : List ℕ) → ((header_fault s).number ≡ 0) ↔ (Within s 0 header_size × HeaderFacts s)
unfolding header_fault header_ok
header_says s =
    simp (says, header_marked_says) (
      λ h. (
        omega arith,
        record {
          mark = h.0.1;
          links_least = omega arith;
          links_most = omega arith;
          turns_most = omega arith;
          signals_least = omega arith;
          signals_most = omega arith;
          modes_least = omega arith;
          modes_most = omega arith;
          boxes_least = omega arith;
          boxes_most = omega arith;
          entries_least = omega arith;
          entries_most = omega arith;
        },
      ),
      λ h. ((omega arith, h.1.mark), omega (arith, h.1)),
    )

pub link_says : (s : List ℕ) (l : ℕ) → ((link_fault s l).number ≡ 0) ↔ (Within s (link_at s l) (link_size s) × LinkFacts s l)
unfolding link_fault link_ok
link_says s l =
    let z : leb 2 (link_size s) ≡ true = le-leb 2 (link_size s) (omega (arith, link_least s)) in
    simp (says, z) (omega arith)

pub signal_says : (s : List ℕ) (g : ℕ) → ((signal_fault s g).number ≡ 0) ↔ (Within s (signal_at s g) signal_size × SignalFacts s g)
unfolding signal_fault signal_ok
signal_says s g = simp says (omega arith)

pub mode_says : (s : List ℕ) (m : ℕ) → ((mode_fault s m).number ≡ 0) ↔ (Within s (mode_at s m) (mode_size s) × ModeFacts s m × GoalsAgree s m × (m + 1 ≡ modes_of s → NumbersUsed s))
unfolding mode_fault mode_ok
mode_says s m =
    let z : leb 2 (mode_size s) ≡ true = le-leb 2 (mode_size s) (omega (arith, mode_least s)) in
    simp (says, z, goals_say) (
      λ ((whole, mark), ((signal, (number, goals, agree, used)), _)).
          (whole, record { mark = mark; signal = signal; number_most = number; goals_most = goals }, agree, used),
      λ (whole, facts, agree, used). ((whole, facts.mark), ((facts.signal, (facts.number_most, facts.goals_most, agree, used)), refl)),
    )

pub turn_says : (s : List ℕ) (t : ℕ) → ((turn_fault s t).number ≡ 0) ↔ (Within s (turn_at s t) turn_size × TurnFacts s t × (turn_ascends s t ≡ true) × (share_total s t ≤ 100))
unfolding turn_fault turn_ok
turn_says s t = simp says (λ h. (omega arith, omega arith, h.1.0.0.1, omega arith), λ h. (omega arith, (((omega arith, h.2), omega arith), refl)))

pub passes_says : (s : List ℕ) (e : ℕ) → (passes_on s e ≡ true) ↔ PassesOn s e
unfolding passes_on
passes_says s e = go (remembers s)
  where
    go : (b : Bool) → ((not b || eqb (shown_before s (next_mode_of s e)) (signal_of s e)) ≡ true) ↔ (b ≡ true → shown_before s (next_mode_of s e) ≡ signal_of s e)
    go true = ((λ p k. eqb-true _ _ p), (λ h. eq-eqb _ _ (h refl)))
    go false = ((λ p k. absurd (false≢true k)), (λ h. refl))

pub entry_says : (s : List ℕ) (e : ℕ) → ((entry_fault s e).number ≡ 0) ↔ (Within s (entry_at s e) entry_size × EntryFacts s e × (entry_ascends s e ≡ true) × PassesOn s e × TurnsOn s e)
unfolding entry_fault names_exist
entry_says s e = simp (says, passes_says, turns_say) (λ h. (omega arith, omega arith, search h, search h, search h), λ h. search (h, arith))

pub end_says : (s : List ℕ) → ((end_fault s).number ≡ 0) ↔ ((length s ≡ end_at s + end_size) × Mark s (end_at s) 90 90)
unfolding end_fault
end_says s = simp says (omega arith)

pub box_says : (s : List ℕ) (b : ℕ) → ((arrival_fault s b).number ≡ 0) ↔ (Within s (arrival_at s b) (arrival_size (links_of s)) × BoxFacts s b)
unfolding arrival_fault range_fault range_ok
box_says s b =
    let z : leb 2 (arrival_size (links_of s)) ≡ true = le-leb 2 (arrival_size (links_of s)) (omega arith) in
    simp (says, z) (
      λ h. (omega arith, record { mark = h.0.1; low_most = λ l lt. (h.1 l lt).0.0; high_most = λ l lt. (h.1 l lt).0.1 }),
      λ h. ((omega arith, h.1.mark), λ l lt. ((h.1.low_most l lt, h.1.high_most l lt), refl)),
    )

pub grid_says : (s : List ℕ) (l : ℕ) → ((grid_fault s l).number ≡ 0) ↔ (Within s (grid_at s l) (grid_size (intervals_of s l)) × GridFacts s l)
unfolding grid_fault count_ok cut_fault cut_ok cut_before
grid_says s l =
    simp says (
      λ h. (
        omega arith,
        record {
          mark = h.0.1;
          count_least = omega arith;
          count_most = omega arith;
          product_most = omega arith;
          cut_least = λ i lt. omega (arith, h.1.1.1 i (omega arith));
          cut_most = λ i lt. (h.1.1.1 i (omega arith)).0.1;
          ascend = λ i j a b. all_ascend (λ x y. cut_of s l x < cut_of s l y) (λ x y z p q. omega arith) (intervals_of s l - 1) (λ k lt. (h.1.1.1 (suc k) lt).0.0) i j a (omega arith);
        },
      ),
      λ h. (omega arith, (omega arith, (omega arith, cuts h.1))),
    )
  where
    cuts : GridFacts s l → (k : ℕ) → k < intervals_of s l - 1 → ((cut_before s l k < cut_of s l k) × (cut_of s l k < cap_of s l)) × (fine.number ≡ 0)
    cuts h zero lt = ((h.cut_least 0 (omega arith), h.cut_most 0 (omega arith)), refl)
    cuts h (suc k) lt = ((h.ascend k (suc k) (omega arith) (omega arith), h.cut_most (suc k) (omega arith)), refl)
