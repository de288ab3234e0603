-- A byte string reads as its first (greatest length + 1) bytes do. Assumes nothing.
use Prim.Native.Nat.{ℕ, ◌+◌, ◌≤◌, ◌<◌}
use mathlib.Core.List.{List}
use mathlib.Core.Bool.{Bool, true, false}
use mathlib.Core.Path.{◌≡◌, refl, sym}
use native.Mathlib.Omega.{arith}
use borrow.Author.Tests.{leb-true, leb-false}
use lib.ListN.{length, take, length-take}
use lib.Seq.{take_all, get_or-take}
use lib.Dec.{leb}
use Rattle.certificate.specs.Layout.{max_intervals, max_length, links_of, intervals_of}
use Rattle.certificate.specs.Reading.{links_fault, turns_fault, signals_fault, modes_fault, grids_fault, arrivals_fault, entries_fault, reading_of}
use Rattle.certificate.specs.Laws.{LongInput}
use Rattle.certificate.proofs.Tests.{all_fine}
use Rattle.certificate.proofs.Agreement.{or_same, loop_same, Agree}
use Rattle.certificate.proofs.LongFront.{counts, links_same, turns_same, signals_same, boxes_same, entries_same, records_same, header_same, link_same, turn_same, signal_same, mode_same}
use Rattle.certificate.proofs.LongBack.{grid_passes, grid_same, arrival_same, entry_same, end_same}

-- strings that agree read alike: each stage does while the stages before it pass
pub reading_same : {s t : List ℕ} → Agree s t → reading_of s ≡ reading_of t
unfolding reading_of links_fault turns_fault signals_fault modes_fault grids_fault arrivals_fault entries_fault
reading_same {s} {t} A =
    or_same (header_same A) λ h.
    let C = counts s h in
    or_same (loop_same (links_same A) (λ l lt _. link_same A C l lt)) λ _.
    or_same (loop_same (turns_same A) (λ k lt _. turn_same A C k lt)) λ _.
    or_same (loop_same (signals_same A) (λ g lt _. signal_same A C g lt)) λ _.
    or_same (loop_same (records_same A) (λ m lt _. mode_same A C m lt)) λ _.
    or_same (loop_same (links_same A) (λ l lt before. grid_same A C l (omega arith) (λ j b. grid_passes s j (before j b)) lt)) λ grids.
    let few : (j : ℕ) → j < links_of s → intervals_of s j ≤ max_intervals = λ j b. grid_passes s j (all_fine _ _ grids j b) in
    or_same (loop_same (boxes_same A) (λ b lt _. arrival_same A C few b lt)) λ _.
    or_same (loop_same (entries_same A) (λ e lt _. entry_same A C few e lt)) λ _.
    end_same A C few

-- a string no longer than that is its own front part, a longer one agrees with it
pub long_input : LongInput
long_input s = go (leb (length s) (max_length + 1)) refl
  where
    go : (b : Bool) → leb (length s) (max_length + 1) ≡ b → reading_of s ≡ reading_of (take (max_length + 1) s)
    go true e = rw (take_all (max_length + 1) s (leb-true _ _ e))
    go false e =
        let long : max_length + 1 < length s = leb-false _ _ e in
        reading_same
        record {
          same = λ o h. sym (get_or-take (max_length + 1) s o 0 (omega arith));
          long = omega arith;
          long' = rw length-take (omega arith);
        }
