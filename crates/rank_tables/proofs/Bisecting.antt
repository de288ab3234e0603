-- Bisection for the first entry at or above a cell: what the entry in the middle says of it. Assumes nothing.
use Prim.Native.Nat.{ℕ, ◌+◌, ◌≤◌, ◌<◌}
use mathlib.Core.List.{List}
use mathlib.Core.Bool.{Bool, true, false}
use mathlib.Core.Path.{◌≡◌, refl}
use native.Mathlib.Omega.{arith}
use borrow.Author.Tests.{leb-true, leb-false, le-leb}
use lib.Dec.{leb}
use Rattle.certificate.specs.Layout.{entries_of, cell_of}
use Rattle.certificate.proofs.Loops.{find_least}
use Rattle.rank_tables.specs.Index.{entry_from, CellsAscend}
use Rattle.rank_tables.proofs.Finding.{from_after}

module _ (s : List ℕ) (d e : ℕ) where
  -- an entry at or above the cell is no earlier than the first one
  pub not_later : d ≤ cell_of s e → entry_from s d ≤ e
  unfolding entry_from
  not_later h = find_least (entries_of s) (λ k. leb d (cell_of s k)) e (le-leb _ _ h)

  -- an entry below the cell comes before it
  pub later : CellsAscend s → e < entries_of s → cell_of s e < d → e + 1 ≤ entry_from s d
  later ascend lt h = go (leb (entry_from s d) e) refl
    where
      go : (b : Bool) → leb (entry_from s d) e ≡ b → e + 1 ≤ entry_from s d
      go true q = absurd (omega (arith, from_after s d ascend e (leb-true _ _ q) lt))
      go false q = omega (arith, leb-false (entry_from s d) e q)
