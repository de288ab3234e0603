-- What is found out once of an entry. Assumes nothing.
use Prim.Native.Nat.{ℕ, suc, ◌+◌, ◌*◌, ◌≤◌, ◌<◌}
use mathlib.Core.Path.{◌≡◌}
use native.Mathlib.Nat.{suc-mul}
use native.Mathlib.Omega.{arith}
use Rattle.certificate.specs.Layout.{entries_of, next_mode_of, rank_of}
use Rattle.reading.specs.declared.Certificate.{Certificate}
use Rattle.reading.proofs.Whole.{reads}
use Rattle.entry_setup.specs.Tables.{bound_for, IsEntry}
use Rattle.rank_tables.proofs.Ranking.{table_fits}

pub row_fits : (m modes cells : ℕ) → m < modes → modes ≤ 8 → cells ≤ 4096 → m * cells + cells ≤ 32768
row_fits m modes cells h few most = omega (arith, rw suc-mul at (table_fits (suc m) cells (omega arith) most))

module _ (w : Certificate) (e next : ℕ) (exists : e < entries_of w.bytes.now) (next_is : next ≡ next_mode_of w.bytes.now e) where
  -- the ranks of the next mode stand within the table
  pub next_fits : next * w.layout.cells + w.layout.cells ≤ 32768
  next_fits = row_fits next w.layout.modes w.layout.cells (omega (arith, next_is, ((reads w).entry e exists).next_mode, w.laid.modes_are)) w.laid.modes_most w.laid.cells_most

  pub is_entry : {rank bound : ℕ} → rank ≡ rank_of w.bytes.now e → bound ≡ bound_for rank → IsEntry w.bytes.now e (next * w.layout.cells) rank bound
  is_entry p q =
      record {
        exists = exists;
        most = omega (arith, exists, w.laid.entries_are, w.laid.entries_most);
        next_exists = ((reads w).entry e exists).next_mode;
        row_is = rw (next_is, w.laid.cells_are);
        row_fits = rw (← w.laid.cells_are) next_fits;
        rank_is = p;
        bound_is = q;
      }
