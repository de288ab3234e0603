-- The lines of a listing, field by field and entry by entry. Assumes nothing.
use mathlib.Core.Path.{◌≡◌, ap}
use mathlib.Core.List.{List, [], ◌++◌}
use Prim.Native.Nat.{ℕ, ◌+◌, ◌≤◌, ◌<◌}
use native.Mathlib.Omega.{arith}
use native.Mathlib.Numerals.{add-one}
use lib.ListN.{length, drop, get_or, length-append, drop_of_length-le}
use lib.Seq.{drop-cons}
use Rattle.certificate.proofs.Ascending.{grows}
use Rattle.certificate.specs.declared.Report.{Report}
use Rattle.certificate.specs.Layout.{links_of, turns_of, signals_of, modes_of, boxes_of, entries_of, cell_of, mode_of, signal_of, next_mode_of, rank_of}
use Rattle.listing_text.specs.Text.{decimal, line_feed}
use Rattle.listing_text.specs.Lines.{counts_line, entry_line, entry_lines, accepted_line, refused_line}
use Rattle.listing_text.proofs.Digits.{decimal_fits}
use Rattle.listing_lines.specs.declared.line.Field.{Field}
use Rattle.listing_lines.specs.Fields.{line_of}

-- field i, as the code reads it
abbrev field : List Field → ℕ → Field
field fs i = get_or fs i (record { ref_ptr = (0, 0); now = [] }, 0)

-- the fields from i on: field i, and the others
pub line_step : (fs : List Field) (i : ℕ) → i < length fs
    → line_of (drop i fs) ≡ (field fs i).0.now ++ (decimal (field fs i).1 ++ line_of (drop (i + 1) fs))
unfolding line_of
line_step fs i h = rw add-one (ap line_of (drop-cons fs i _ h))

pub line_end : (fs : List Field) (i : ℕ) → length fs ≤ i → line_of (drop i fs) ≡ line_feed
unfolding line_of
line_end fs i h = ap line_of (drop_of_length-le fs h)

-- field i makes the line longer by its word and its digits
pub length_field : (fs : List Field) (i : ℕ) → i < length fs
    → length (line_of (drop i fs)) ≡ length (field fs i).0.now + length (decimal (field fs i).1) + length (line_of (drop (i + 1) fs))
length_field fs i h = rw (line_step fs i h, length-append, length-append) (omega arith)

-- fewer lines are no longer
pub lines_grow : (s : List ℕ) (e n : ℕ) → e ≤ n → length (entry_lines s e) ≤ length (entry_lines s n)
unfolding entry_lines
lines_grow s = grows (λ (n : ℕ). length (entry_lines s n)) (λ n. rw length-append (omega arith))

-- a text that is another, and that one's most bytes
pub within : {l t : List ℕ} {most : ℕ} → l ≡ t → length t ≤ most → (l ≡ t) × (length l ≤ most)
within e h = (e, rw e h)

-- the most bytes of the lines, whatever is listed
pub counts_most : (s : List ℕ) → length (counts_line s) ≤ 126
unfolding counts_line
counts_most s =
    simp length-append (
    omega (
      arith,
      decimal_fits (links_of s),
      decimal_fits (turns_of s),
      decimal_fits (signals_of s),
      decimal_fits (modes_of s),
      decimal_fits (boxes_of s),
      decimal_fits (entries_of s),
    )
    )

pub entry_most : (s : List ℕ) (e : ℕ) → length (entry_line s e) ≤ 55
unfolding entry_line
entry_most s e =
    simp length-append (
    omega (
      arith,
      decimal_fits (cell_of s e),
      decimal_fits (mode_of s e),
      decimal_fits (signal_of s e),
      decimal_fits (next_mode_of s e),
      decimal_fits (rank_of s e),
    )
    )

pub accepted_most : (r : Report) (n : ℕ) → length (accepted_line r n) ≤ 65
unfolding accepted_line
accepted_most r n = simp length-append (omega (arith, decimal_fits r.count, decimal_fits n))

pub refused_most : (r : Report) → length (refused_line r) ≤ 65
unfolding refused_line
refused_most r = simp length-append (omega (arith, decimal_fits r.number, decimal_fits r.a, decimal_fits r.b, decimal_fits r.count))
