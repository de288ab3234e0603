-- The table of ranks: what one slot holds, and the whole table. Assumes nothing.
use Prim.Native.Nat.{ℕ, suc, ◌+◌, ◌*◌, ◌/◌, ◌%◌, ◌≤◌, ◌<◌}
use mathlib.Core.List.{List}
use mathlib.Core.Path.{◌≡◌, sym, ◌∙◌}
use native.Mathlib.Nat.{mod-eq_of_lt, div-eq_of_lt, mul-add-mod_self_right, mul-add-div_right, add-zero, suc-mul, mul-le-mul_right}
use native.Mathlib.Omega.{arith}
use borrow.Author.Tests.{lt-ltb, le-ltb}
use Rattle.certificate.specs.Layout.{modes_of, entries_of, cells_of, rank_of}
use Rattle.octets.specs.Tables.{Holds}
use Rattle.judging.specs.Lookup.{entry_for, is_listed}
use Rattle.rank_tables.specs.Index.{rank_at, RanksOf}
use Rattle.octets.proofs.FilledTables.{Filled, filled_more}
use lib.ListN.{set}

-- the slot of cell d and mode m, whose entry was looked for
module _ (s : List ℕ) (d m : ℕ) where
  pub rank_absent : entries_of s ≡ entry_for s d m → 0 ≡ rank_at s d m
  unfolding rank_at is_listed
  rank_absent q = rw (le-ltb (entry_for s d m) (entries_of s) (omega arith))

  pub rank_listed : (e r : ℕ) → e ≡ entry_for s d m → e < entries_of s → r ≡ rank_of s e → r + 1 ≡ rank_at s d m
  unfolding rank_at is_listed
  rank_listed e r found there q = rw (lt-ltb (entry_for s d m) (entries_of s) (omega arith), ← found, q)

-- slot k of the table
unfoldable pub rank_entry : List ℕ → ℕ → ℕ
rank_entry s k = rank_at s (k % cells_of s) (k / cells_of s)

-- the table holds a row for each mode
pub table_fits : (modes cells : ℕ) → modes ≤ 8 → cells ≤ 4096 → modes * cells ≤ 32768
table_fits modes cells few most = omega (arith, mul-le-mul_right cells few)

-- a table of rows of so many cells: slot d of row m, one more slot of that row, and all slots
module _ (s : List ℕ) (cells : ℕ) (cells-are : cells ≡ cells_of s) where
  pub slot_is : (m d : ℕ) → d < cells → rank_entry s (m * cells + d) ≡ rank_at s d m
  unfolding rank_entry
  slot_is m d inside =
      let cell : (m * cells + d) % cells ≡ d = mul-add-mod_self_right m cells d ∙ mod-eq_of_lt inside in
      let mode : (m * cells + d) / cells ≡ m = mul-add-div_right (omega arith) m d ∙ rw (div-eq_of_lt inside) (add-zero m) in
      rw (← cells-are) (rw (cell, mode))

  row_most : (m n : ℕ) → m < n → m * cells + cells ≤ n * cells
  row_most m n lt = rw suc-mul at (mul-le-mul_right cells (let q : suc m ≤ n = omega arith in q))

  pub slot_more : (modes m d v : ℕ) (a : List ℕ) → modes ≤ 8 → cells ≤ 4096 → Filled 32768 (m * cells + d) (rank_entry s) a → m < modes → d < cells
      → v ≡ rank_at s d m → Filled 32768 (m * cells + (d + 1)) (rank_entry s) (set a (m * cells + d) v)
  slot_more modes m d v a few most h hm hd e =
      let next : m * cells + (d + 1) ≡ m * cells + d + 1 = omega arith in
      rw next (filled_more 32768 _ _ a v h (omega (arith, row_most m _ hm, table_fits _ _ few most)) (e ∙ sym (slot_is m d hd)))

  pub ranks_filled : (a : List ℕ) (modes rows : ℕ) → modes ≡ modes_of s → modes ≤ rows → Holds (rows * cells) (rank_entry s) a → RanksOf s a
  ranks_filled a modes rows modes-are all h m d hm hd =
      let inside : d < cells = omega arith in
      let there : m * cells + d < rows * cells = omega (arith, row_most m rows (omega arith)) in
      rw (← cells-are) (h (m * cells + d) there ∙ slot_is m d inside)
