-- In a readable certificate the lookup finds the one entry of a cell and a mode. Assumes nothing.
use Prim.Native.Nat.{ℕ, ◌≤◌, ◌<◌}
use mathlib.Core.List.{List}
use mathlib.Core.Logic.{⊎_elim}
use mathlib.Core.Path.{◌≡◌, sym, ◌∙◌}
use native.Mathlib.Nat.{eq-or-lt_of_le}
use native.Mathlib.Omega.{arith}
use borrow.Author.Tests.{eqb-true, eq-eqb}
use Rattle.certificate.specs.Layout.{entries_of, cell_of, mode_of}
use Rattle.certificate.specs.Facts.{Readable}
use Rattle.certificate.proofs.Tests.{and_both, both_and}
use Rattle.certificate.proofs.Loops.{found, find_least}
use Rattle.judging.specs.Lookup.{is_for, entry_for}

-- no two entries have the same pair
apart : (s : List ℕ) → Readable s → (e f : ℕ) → e < f → f < entries_of s → cell_of s e ≡ cell_of s f → mode_of s e ≡ mode_of s f → ⊥
apart s R e f lt last c m = ⊎_elim (λ h. omega arith) (λ h. omega arith) (R.entries_ascend e f lt last)

pub finds_entry : (s : List ℕ) → Readable s → (c m e : ℕ) → e < entries_of s → cell_of s e ≡ c → mode_of s e ≡ m → entry_for s c m ≡ e
unfolding entry_for
finds_entry s R c m e lt hc hm =
    let low : entry_for s c m ≤ e = find_least (entries_of s) (is_for s c m) e (both_and _ _ (eq-eqb _ _ hc) (eq-eqb _ _ hm)) in
    let pair = and_both _ _ ((found (entries_of s) (is_for s c m)).passes (omega arith)) in
    ⊎_elim
    (λ (same : entry_for s c m ≡ e). same)
    (λ before. absurd (apart s R (entry_for s c m) e before lt (eqb-true _ _ pair.0 ∙ sym hc) (eqb-true _ _ pair.1 ∙ sym hm)))
    (eq-or-lt_of_le low)
