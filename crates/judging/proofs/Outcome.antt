-- A certificate that passes the tests before 12 is accepted or falls at a stage from 12 on. Assumes nothing.
use Prim.Native.Nat.{ℕ, ◌+◌, ◌<◌}
use mathlib.Core.List.{List}
use mathlib.Core.Path.{refl}
use mathlib.Core.Logic.{◌⊎◌, inl, inr, ⊎_elim}
use Rattle.certificate.specs.Layout.{cells_of, boxes_of, entries_of, next_mode_of}
use Rattle.network.specs.Laws.{Screened}
use Rattle.judging.specs.Conditions.{SafeCell, RankFits, Follows, ListedNext, LowerNext, SuccessorHolds, EntryHolds, looked_cells, looked_boxes, looked_entries}
use Rattle.judging.specs.Laws.{Reaches, ReachesCell}
use Rattle.judging.proofs.Deciding.{tells_split, First, all_or_first}
use Rattle.judging.proofs.Entries.{safe_tells, rank_tells, listed_tells, lower_tells}
use Rattle.judging.proofs.Stages.{accepts, cell-unsafe, rank-unfit, not_listed, not_lower, Fallen}

-- a successor that is not listed, or is listed and not lower
abbrev Failing : List ℕ → ℕ → ℕ → Type 0
Failing s e d = (ListedNext s e d → ⊥) ⊎ (ListedNext s e d × (LowerNext s e d → ⊥))

-- a cell, a box, the boxes of an entry, and an entry: it holds, or it has a first place that fails
abbrev CellHolds : List ℕ → ℕ → ℕ → ℕ → Type 0
CellHolds s e b d = Follows s e b d → SuccessorHolds s e d

abbrev CellFails : List ℕ → ℕ → ℕ → ℕ → Type 0
CellFails s e b d = Follows s e b d × Failing s e d

abbrev BoxHolds : List ℕ → ℕ → ℕ → Type 0
BoxHolds s e b = (d : ℕ) → d < cells_of s → CellHolds s e b d

abbrev BoxFails : List ℕ → ℕ → ℕ → Type 0
BoxFails s e b = First (cells_of s) (CellHolds s e b) (CellFails s e b)

abbrev PlaceFails : List ℕ → ℕ → Type 0
PlaceFails s e = First (boxes_of s) (BoxHolds s e) (BoxFails s e)

abbrev EntryFails : List ℕ → ℕ → Type 0
EntryFails s e = (SafeCell s e → ⊥) ⊎ (SafeCell s e × ((RankFits s e → ⊥) ⊎ (RankFits s e × PlaceFails s e)))

module _ (s : List ℕ) (screened : Screened s) where
  successor_split : (e d : ℕ) → SuccessorHolds s e d ⊎ Failing s e d
  successor_split e d = ⊎_elim found (λ bad. inr (inl bad)) (tells_split _ (listed_tells s d (next_mode_of s e)))
    where
      found : ListedNext s e d → SuccessorHolds s e d ⊎ Failing s e d
      found listed = ⊎_elim (λ low. inl (listed, low)) (λ bad. inr (inr (listed, bad))) (tells_split _ (lower_tells s e d screened.readable listed))

  cell_split : (e b d : ℕ) → CellHolds s e b d ⊎ CellFails s e b d
  cell_split e b d =
      ⊎_elim
      (λ f. ⊎_elim (λ h. inl (λ _. h)) (λ bad. inr (f, bad)) (successor_split e d))
      (λ no-successor. inl (λ f. absurd (no-successor f)))
      (tells_split {A = Follows s e b d} _ ((λ f. f), (λ f. f)))

  entry_split : (e : ℕ) → EntryHolds s e ⊎ EntryFails s e
  entry_split e = ⊎_elim safe (λ bad. inr (inl bad)) (tells_split _ (safe_tells s e))
    where
      ranked : SafeCell s e → RankFits s e → EntryHolds s e ⊎ EntryFails s e
      ranked h r =
          ⊎_elim
          (λ all. inl (record { safe = h; rank = r; successors = λ b d lb ld. all b lb d ld }))
          (λ f. inr (inr (h, inr (r, f))))
          (all_or_first (boxes_of s) (λ b lb. all_or_first (cells_of s) (λ d ld. cell_split e b d)))

      safe : SafeCell s e → EntryHolds s e ⊎ EntryFails s e
      safe h = ⊎_elim (ranked h) (λ bad. inr (inr (h, inl bad))) (tells_split _ (rank_tells s e))

  -- the first entry that fails, at its stage
  fallen_at : (e : ℕ) → Reaches s e → EntryFails s e → Fallen s
  fallen_at e r (inl bad) = record { stage = cell-unsafe; a = e; b = 0; count = looked_entries s e; falls = (r, bad, refl, refl) }
  fallen_at e r (inr (h, inl bad)) = record { stage = rank-unfit; a = e; b = 0; count = looked_entries s e; falls = (r, h, bad, refl, refl) }
  fallen_at e r (inr (h, inr (k, f))) = go f.bad.bad.1
    where
      count : ℕ
      count = looked_entries s e + looked_boxes s e f.at + looked_cells s e f.at f.bad.at + 1

      reaches : ReachesCell s e f.bad.at count
      reaches =
          record {
            reaches = r;
            safe = h;
            rank = k;
            box = f.at;
            box_exists = f.inside;
            cell = f.bad.inside;
            follows = f.bad.bad.0;
            earlier = λ b d lb ld. ⊎_elim (λ lt. f.before b lt d ld) (λ same. rw same.0 (f.bad.before d same.1));
            count = refl;
          }

      go : Failing s e f.bad.at → Fallen s
      go (inl bad) = record { stage = not_listed; a = e; b = f.bad.at; count = count; falls = (reaches, bad) }
      go (inr (listed, bad)) = record { stage = not_lower; a = e; b = f.bad.at; count = count; falls = (reaches, listed, bad) }

  -- a certificate that passes the tests before 12 is accepted or falls at a stage from 12 on
  pub fallen_judged : Fallen s
  fallen_judged =
      ⊎_elim
      (λ all. record { stage = accepts; a = 0; b = 0; count = looked_entries s (entries_of s); falls = (screened, all, refl, refl, refl) })
      (λ f. fallen_at f.at (record { screened = screened; entry = f.inside; before = f.before }) f.bad)
      (all_or_first (entries_of s) (λ e lt. entry_split e))
