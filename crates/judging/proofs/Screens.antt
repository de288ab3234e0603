-- What conditions 10 and 11 answer once reading passes: the first pull sum too high, the first turn with too little room. Assumes nothing.
use Prim.Native.Nat.{ℕ, ◌≤◌, ◌<◌}
use mathlib.Core.List.{List}
use mathlib.Core.Bool.{Bool, true, false}
use mathlib.Core.Path.{◌≡◌, refl, ◌∙◌}
use mathlib.Core.Logic.{◌⊎◌, inl, inr, ⊎_elim}
use native.Mathlib.Omega.{arith}
use borrow.Author.Tests.{leb-true, leb-false, le-leb, lt-leb}
use lib.Dec.{leb}
use Rattle.certificate.specs.declared.Report.{Report}
use Rattle.certificate.specs.Checks.{report_with, refusal, fine, first_bad}
use Rattle.certificate.specs.Layout.{links_of, turns_of, signals_of}
use Rattle.certificate.specs.Reading.{reading_of}
use Rattle.certificate.proofs.Tests.{need_pass, need_fail, fine_all, first_stop}
use Rattle.network.specs.Network.{network_of, is_green}
use Rattle.network.specs.Conditions.{pull_sum, pull_fault, signal_pulls_fault, pulls_fault, room_ok, room_fault, rooms_fault}
use Rattle.judging.specs.Laws.{PullTooHigh, RoomTooSmall}
use Rattle.judging.proofs.Deciding.{First, all_or_first}

-- the pull sum of link l under signal g
abbrev pub pull_at : List ℕ → ℕ → ℕ → ℕ
pull_at s g l = pull_sum (network_of s) (is_green s g) l

-- no pull sum is too high; every turn has room
abbrev pub PullsFit : List ℕ → Type 0
PullsFit s = (g l : ℕ) → g < signals_of s → l < links_of s → pull_at s g l ≤ 10000

abbrev pub RoomsFit : List ℕ → Type 0
RoomsFit s = (t : ℕ) → t < turns_of s → room_ok s t ≡ true

-- a number is at most k or above it
pub at_most_or_above : (n k : ℕ) → (n ≤ k) ⊎ (k < n)
at_most_or_above n k = go (leb n k) refl
  where
    go : (b : Bool) → leb n k ≡ b → (n ≤ k) ⊎ (k < n)
    go true q = inl (leb-true _ _ q)
    go false q = inr (leb-false _ _ q)

holds_or_fails : (b : Bool) → (b ≡ true) ⊎ (b ≡ false)
holds_or_fails true = inl refl
holds_or_fails false = inr refl

pull_fine : (s : List ℕ) (g l : ℕ) → pull_at s g l ≤ 10000 → pull_fault s g l ≡ fine
unfolding pull_fault
pull_fine s g l h = need_pass _ _ _ (le-leb _ _ h)

signal_fine : (s : List ℕ) (g : ℕ) → ((l : ℕ) → l < links_of s → pull_at s g l ≤ 10000) → signal_pulls_fault s g ≡ fine
unfolding signal_pulls_fault
signal_fine s g h = fine_all (links_of s) (pull_fault s g) (λ l lt. rw (pull_fine s g l (h l lt)))

pub pulls_fine : (s : List ℕ) → PullsFit s → pulls_fault s ≡ fine
unfolding pulls_fault
pulls_fine s h = fine_all (signals_of s) (signal_pulls_fault s) (λ g lt. rw (signal_fine s g (λ l ll. h g l lt ll)))

pub rooms_fine : (s : List ℕ) → RoomsFit s → rooms_fault s ≡ fine
unfolding rooms_fault room_fault
rooms_fine s h = fine_all (turns_of s) (room_fault s) (λ t lt. rw (need_pass _ (refusal 11 t) fine (h t lt)))

-- a loop answers as its first test that fails
first_answer : (n : ℕ) (f : ℕ → Report) (k : ℕ) (r : Report) → k < n → ((j : ℕ) → j < k → f j ≡ fine) → f k ≡ r → (r.number ≡ 0 → ⊥) → first_bad n f ≡ r
first_answer n f k r lt before e bad = first_stop n f k lt (λ j l. rw (before j l)) (λ z. bad (rw e at z)) ∙ e

module _ (s : List ℕ) where
  pub pulls_refuse : (g l : ℕ) → PullTooHigh s g l → pulls_fault s ≡ report_with 10 g l 0
  unfolding pulls_fault signal_pulls_fault pull_fault
  pulls_refuse g l p = first_answer (signals_of s) (signal_pulls_fault s) g _ p.signal signals links (λ z. omega arith)
    where
      signals : (h : ℕ) → h < g → signal_pulls_fault s h ≡ fine
      signals h lh = signal_fine s h (λ k lk. p.before h k (omega (arith, p.signal)) lk (inl lh))

      before : (k : ℕ) → k < l → pull_fault s g k ≡ fine
      before k lk = pull_fine s g k (p.before g k p.signal (omega (arith, p.link)) (inr (refl, lk)))

      links : signal_pulls_fault s g ≡ report_with 10 g l 0
      links = first_answer (links_of s) (pull_fault s g) l _ p.link before (need_fail _ _ _ (lt-leb _ _ p.high)) (λ z. omega arith)

  pub rooms_refuse : (t : ℕ) → RoomTooSmall s t → rooms_fault s ≡ report_with 11 t 0 0
  unfolding rooms_fault room_fault
  rooms_refuse t p =
      first_answer (turns_of s) (room_fault s) t _ p.turn (λ u lu. need_pass _ (refusal 11 u) fine (p.before u lu)) (need_fail _ _ _ p.small) (λ z. omega arith)

  -- either all pull sums fit, or there is a first that does not; and so for the turns
  pub pulls_split : (reading_of s).number ≡ 0 → PullsFit s ⊎ ((g : ℕ) × (l : ℕ) × PullTooHigh s g l)
  pulls_split read = ⊎_elim (λ all. inl (λ g l lg ll. all g lg l ll)) (λ f. inr (first f)) (all_or_first (signals_of s) (λ g lg. all_or_first (links_of s) (λ l ll. at_most_or_above (pull_at s g l) 10000)))
    where
      first : First (signals_of s) (λ g. (l : ℕ) → l < links_of s → pull_at s g l ≤ 10000) (λ g. First (links_of s) (λ l. pull_at s g l ≤ 10000) (λ l. 10000 < pull_at s g l)) → (g : ℕ) × (l : ℕ) × PullTooHigh s g l
      first f = (
        f.at,
        f.bad.at,
        record {
          read = read;
          signal = f.inside;
          link = f.bad.inside;
          high = f.bad.bad;
          before = λ h k lh lk. ⊎_elim (λ lt. f.before h lt k lk) (λ same. rw same.0 (f.bad.before k same.1));
        },
      )

  pub rooms_split : (reading_of s).number ≡ 0 → PullsFit s → RoomsFit s ⊎ ((t : ℕ) × RoomTooSmall s t)
  rooms_split read pulls = ⊎_elim inl (λ f. inr (first f)) (all_or_first (turns_of s) (λ t lt. holds_or_fails (room_ok s t)))
    where
      first : First (turns_of s) (λ t. room_ok s t ≡ true) (λ t. room_ok s t ≡ false) → (t : ℕ) × RoomTooSmall s t
      first f = (f.at, record { read = read; pulls = pulls; turn = f.inside; small = f.bad; before = f.before })
