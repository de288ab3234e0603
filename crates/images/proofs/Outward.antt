-- The turns from one link stand together, from its first turn up to the next link's. Assumes nothing.
use Prim.Native.Nat.{ℕ, zero, suc, ◌+◌, ◌≤◌, ◌<◌}
use mathlib.Core.List.{List}
use mathlib.Core.Bool.{Bool, true, false}
use mathlib.Core.Path.{◌≡◌, refl, ◌∙◌}
use mathlib.Core.Logic.{⊎_elim}
use native.Mathlib.Nat.{eq-or-lt_of_le}
use native.Mathlib.Omega.{arith}
use borrow.Author.Tests.{leb-true, leb-false, eq-eqb, ne_eqb}
use lib.Dec.{leb, eqb}
use lib.ListN.{get_or}
use Rattle.certificate.specs.Layout.{links_of, turns_of, from_of}
use Rattle.certificate.specs.Facts.{Readable}
use Rattle.certificate.proofs.Loops.{Found, found}
use Rattle.network.specs.Flow.{least_to}
use Rattle.supply.specs.Supply.{FirstTurns}
use Rattle.supply.proofs.LeastNumbers.{least_same, least_skip}

module _ (s first : List ℕ) (R : Readable s) (F : FirstTurns s first) where
  -- where the turns of link j begin
  abbrev begin : ℕ → ℕ
  begin j = get_or first j 0

  known : (j : ℕ) → j < 9 → Found (turns_of s) (λ t. leb j (from_of s t)) 0 (begin j)
  known j h = rw (F.begins j h) (found (turns_of s) (λ t. leb j (from_of s t)))

  pub begin_most : (j : ℕ) → j < 9 → begin j ≤ turns_of s
  begin_most j h = (known j h).most

  -- turns before it lead from earlier links
  earlier : (j t : ℕ) → j < 9 → t < begin j → from_of s t < j
  earlier j t h lt = leb-false _ _ ((known j h).before t (omega arith) lt)

  -- and the others do not
  later : (j t : ℕ) → j < 9 → begin j ≤ t → t < turns_of s → j ≤ from_of s t
  later j t h le lt =
      let here : j ≤ from_of s (begin j) = leb-true _ _ ((known j h).passes (omega arith)) in
      ⊎_elim
      (λ (e : begin j ≡ t). rw (← e) here)
      (λ (l : begin j < t). ⊎_elim (λ a. omega arith) (λ a. omega arith) (R.turns_ascend (begin j) t l lt))
      (eq-or-lt_of_le le)

  pub begin_ascends : (j : ℕ) → j < 8 → begin j ≤ begin (j + 1)
  begin_ascends j h = go (leb (begin j) (begin (j + 1))) refl
    where
      go : (q : Bool) → leb (begin j) (begin (j + 1)) ≡ q → begin j ≤ begin (j + 1)
      go true q = leb-true _ _ q
      go false q =
          let less : begin (j + 1) < begin j = leb-false _ _ q in
          absurd (omega (arith, begin_most j (omega arith), earlier j (begin (j + 1)) (omega arith) less, later (j + 1) (begin (j + 1)) (omega arith) (omega arith) (omega (arith, begin_most j (omega arith)))))

  -- the turns of the first link begin first, and the last of all are those of the last link
  pub begin_first : begin 0 ≡ 0
  begin_first = go (begin 0) refl
    where
      go : (b : ℕ) → begin 0 ≡ b → begin 0 ≡ 0
      go zero e = e
      go (suc b) e = absurd (omega (arith, earlier 0 0 (omega arith) (omega arith)))

  pub begin_last : begin (links_of s) ≡ turns_of s
  begin_last = go (leb (turns_of s) (begin (links_of s))) refl
    where
      known_links : links_of s < 9
      known_links = omega (arith, R.header)

      go : (q : Bool) → leb (turns_of s) (begin (links_of s)) ≡ q → begin (links_of s) ≡ turns_of s
      go true q = let most : turns_of s ≤ begin (links_of s) = leb-true _ _ q in omega (arith, begin_most (links_of s) known_links)
      go false q =
          let less : begin (links_of s) < turns_of s = leb-false _ _ q in
          absurd (omega (arith, later (links_of s) (begin (links_of s)) known_links (omega arith) less, (R.turn (begin (links_of s)) less).from_link))

  -- the turns in between lead from link j
  pub from_here : (j t : ℕ) → j < 8 → begin j ≤ t → t < begin (j + 1) → from_of s t ≡ j
  from_here j t h le lt =
      omega (arith, earlier (j + 1) t (omega arith) lt, later j t (omega arith) le (omega (arith, begin_most (j + 1) (omega arith))))

  -- a turn leads from link j exactly if it stands between
  between : (j t : ℕ) → j < 8 → t < turns_of s → t < begin (j + 1) → eqb (from_of s t) j ≡ leb (begin j) t
  between j t h lt below = go (leb (begin j) t) refl
    where
      go : (q : Bool) → leb (begin j) t ≡ q → eqb (from_of s t) j ≡ q
      go true q = eq-eqb (from_of s t) j (from_here j t h (leb-true _ _ q) below)
      go false q = ne_eqb (from_of s t) j (λ e. omega (arith, earlier j t (omega arith) (leb-false _ _ q)))

  -- so the least over the turns from link j is the least over those
  pub least_between : (j : ℕ) → j < 8 → (f : ℕ → ℕ) (b : ℕ) → least_to (turns_of s) (λ t. eqb (from_of s t) j) f b ≡ least_to (begin (j + 1)) (leb (begin j)) f b
  least_between j h f b =
      let most : begin (j + 1) ≤ turns_of s = begin_most (j + 1) (omega arith) in
      least_skip (begin (j + 1)) (turns_of s) _ f b most (λ t le lt. ne_eqb (from_of s t) j (λ e. omega (arith, later (j + 1) t (omega arith) le lt)))
      ∙ least_same (begin (j + 1)) _ _ f f b (λ t lt. between j t h (omega arith) lt) (λ t lt p. refl)
