-- How long the lines of a listing are. Assumes nothing.
use Prim.Native.Nat.{ℕ, zero, suc, ◌+◌, ◌*◌, ◌≤◌, ◌<◌}
use mathlib.Core.List.{List, ◌++◌}
use mathlib.Core.Path.{◌≡◌}
use native.Mathlib.Omega.{arith}
use native.Mathlib.Numerals.{add-one}
use lib.ListN.{length, length-append}
use Rattle.certificate.specs.declared.Report.{Report}
use Rattle.certificate.specs.Layout.{links_of, turns_of, signals_of, modes_of, boxes_of, entries_of, cell_of, mode_of, signal_of, next_mode_of, rank_of}
use Rattle.certificate.specs.Facts.{Readable}
use Rattle.certificate.proofs.Size.{cells_in_range}
use Rattle.listing_text.specs.Text.{decimal}
use Rattle.listing_text.specs.Lines.{counts_line, entry_line, entry_lines, accepted_line, refused_line}
use Rattle.listing_text.specs.Laws.{max_counts_line, max_entry_line, max_accepted_line}
use Rattle.listing_text.proofs.Digits.{decimal_short, decimal_fits}

pub length_counts : (s : List ℕ)
    → length (counts_line s) ≡ 49 + length (decimal (links_of s)) + length (decimal (turns_of s)) + length (decimal (signals_of s))
    + length (decimal (modes_of s)) + length (decimal (boxes_of s)) + length (decimal (entries_of s))
unfolding counts_line
length_counts s = simp length-append (omega arith)

length_entry : (s : List ℕ) (e : ℕ)
    → length (entry_line s e) ≡ 5 + length (decimal (cell_of s e)) + length (decimal (mode_of s e)) + length (decimal (signal_of s e))
    + length (decimal (next_mode_of s e)) + length (decimal (rank_of s e))
unfolding entry_line
length_entry s e = simp length-append (omega arith)

-- one more entry
pub lines_more : (s : List ℕ) (e : ℕ) → entry_lines s (e + 1) ≡ entry_lines s e ++ entry_line s e
unfolding entry_lines
lines_more s e = rw add-one

pub length_more : (s : List ℕ) (e : ℕ) → length (entry_lines s (e + 1)) ≡ length (entry_lines s e) + length (entry_line s e)
length_more s e = rw (lines_more, length-append)

-- the lines of a readable certificate
module _ (s : List ℕ) (R : Readable s) where
  pub counts_most : length (counts_line s) ≤ max_counts_line
  counts_most =
      let H = R.header in
      omega (
        arith,
        length_counts s,
        decimal_short 0 (links_of s) (omega (arith, H.links_most)),
        decimal_short 1 (turns_of s) (omega (arith, H.turns_most)),
        decimal_short 1 (signals_of s) (omega (arith, H.signals_most)),
        decimal_short 0 (modes_of s) (omega (arith, H.modes_most)),
        decimal_short 0 (boxes_of s) (omega (arith, H.boxes_most)),
        decimal_short 3 (entries_of s) (omega (arith, H.entries_most)),
      )

  entry_most : (e : ℕ) → e < entries_of s → length (entry_line s e) ≤ max_entry_line
  entry_most e lt =
      let H = R.header in
      let E = R.entry e lt in
      omega (
        arith,
        length_entry s e,
        decimal_short 3 (cell_of s e) (omega (arith, E.cell, cells_in_range s R)),
        decimal_short 0 (mode_of s e) (omega (arith, E.mode, H.modes_most)),
        decimal_short 1 (signal_of s e) (omega (arith, E.signal, H.signals_most)),
        decimal_short 0 (next_mode_of s e) (omega (arith, E.next_mode, H.modes_most)),
        decimal_fits (rank_of s e),
      )

  pub entries_most : (n : ℕ) → n ≤ entries_of s → length (entry_lines s n) ≤ max_entry_line * n
  unfolding entry_lines
  entries_most zero h = omega arith
  entries_most (suc n) h = rw length-append (omega (arith, entries_most n (omega arith), entry_most n h))

  -- the last line
  pub accepted_most : (r : Report) (n : ℕ) → n ≤ entries_of s → length (accepted_line r n) ≤ max_accepted_line
  unfolding accepted_line
  accepted_most r n le = simp length-append (omega (arith, decimal_fits r.count, decimal_short 3 n (omega (arith, R.header.entries_most))))

-- the only line of a refused certificate

pub refused_most : (r : Report) → length (refused_line r) ≤ max_counts_line
unfolding refused_line
refused_most r = simp length-append (omega (arith, decimal_fits r.number, decimal_fits r.a, decimal_fits r.b, decimal_fits r.count))
