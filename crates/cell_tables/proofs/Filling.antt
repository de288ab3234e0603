-- The entries of the table of edges and of that of intervals. Assumes nothing.
use Prim.Native.Nat.{ℕ, zero, suc, ◌+◌, ◌*◌, ◌-◌, ◌/◌, ◌%◌, ◌≤◌, ◌<◌}
use mathlib.Core.List.{List}
use mathlib.Core.Path.{◌≡◌, refl, sym, ◌∙◌}
use native.Mathlib.Numerals.{add-one}
use native.Mathlib.Omega.{arith}
use lib.ListN.{get_or}
use Rattle.certificate.specs.Layout.{max_intervals, max_links, links_of, cap_of, intervals_of, cut_of, cells_of}
use Rattle.certificate.specs.Records.{cut_before}
use Rattle.certificate.specs.Facts.{Readable}
use Rattle.grid.specs.Intervals.{lower_edge, upper_edge}
use Rattle.grid.specs.Cells.{interval_in}
use Rattle.octets.specs.Tables.{Holds}
use Rattle.cell_tables.specs.Tables.{edge_of, EdgesOf, DigitsOf}
use Rattle.grid.proofs.Edges.{upper_inner, upper_last}
use Rattle.grid.proofs.Numbers.{is_choice}

-- edge i after the first: a cut of a link that has n intervals, or its cap
pub edge_cut : (s : List ℕ) (l i n r : ℕ) → (i ≡ 0 → ⊥) → n ≡ intervals_of s l → i < n → r ≡ cut_of s l (i - 1) → r ≡ edge_of s l i
unfolding edge_of
edge_cut s l zero n r z e h q = absurd (z refl)
edge_cut s l (suc i) n r z e h q =
    let same : suc i - 1 ≡ i = omega arith in
    q ∙ rw same (sym (upper_inner s l i (omega arith)))

pub edge_cap : (s : List ℕ) (l i n r : ℕ) → (i ≡ 0 → ⊥) → n ≡ intervals_of s l → n ≤ i → r ≡ cap_of s l → r ≡ edge_of s l i
unfolding edge_of
edge_cap s l zero n r z e h q = absurd (z refl)
edge_cap s l (suc i) n r z e h q = q ∙ sym (upper_last s l i (omega arith))

edge_lower : (s : List ℕ) (l i : ℕ) → i < intervals_of s l → edge_of s l i ≡ lower_edge s l i
unfolding edge_of cut_before
edge_lower s l zero h = refl
edge_lower s l (suc i) h = upper_inner s l i (omega arith)

edge_upper : (s : List ℕ) (l i : ℕ) → edge_of s l (i + 1) ≡ upper_edge s l i
unfolding edge_of
edge_upper s l i = rw add-one

-- entry 16 l + i of the table of edges
unfoldable pub edge_entry : List ℕ → ℕ → ℕ
edge_entry s k = edge_of s (k / 16) (k % 16)

entry_is : (s : List ℕ) (l i : ℕ) → i < 16 → edge_entry s (16 * l + i) ≡ edge_of s l i
unfolding edge_entry
entry_is s l i h =
    let e : (16 * l + i) / 16 ≡ l = omega arith in
    let f : (16 * l + i) % 16 ≡ i = omega arith in
    rw (e, f)

pub edges_filled : (s : List ℕ) → Readable s → (a : List ℕ) (n : ℕ) → n ≡ 16 * links_of s → Holds n (edge_entry s) a → EdgesOf s a
edges_filled s R a n e h =
    record {
      lower = λ l i lt b.
          let m : intervals_of s l ≤ max_intervals = (R.grid l lt).count_most in
          h (16 * l + i) (omega arith) ∙ entry_is s l i (omega arith) ∙ edge_lower s l i b;
      upper = λ l i lt b.
          let m : intervals_of s l ≤ max_intervals = (R.grid l lt).count_most in
          let same : 16 * l + i + 1 ≡ 16 * l + (i + 1) = omega arith in
          rw same (h (16 * l + (i + 1)) (omega arith) ∙ entry_is s l (i + 1) (omega arith) ∙ edge_upper s l i);
    }

-- the table a has the intervals of the cells, as far as they stand before entry n
abbrev pub FilledTo : List ℕ → ℕ → List ℕ → Type 0
FilledTo s n a = (c l : ℕ) → l < links_of s → max_links * c + l < n → get_or a (max_links * c + l) 0 ≡ interval_in s c l

-- an interval that is read from the table of cells exists
pub interval_exists : (s : List ℕ) → Readable s → (digits : List ℕ) → DigitsOf s digits → (c l : ℕ) → c < cells_of s → l < links_of s
    → (get_or digits (8 * c + l) 0 ≡ interval_in s c l) × (get_or digits (8 * c + l) 0 < intervals_of s l) × (get_or digits (8 * c + l) 0 < max_intervals)
interval_exists s R digits D c l hc hl =
    let i = D c l hc hl in
    let h = is_choice s R c l hl in
    let most : intervals_of s l ≤ max_intervals = (R.grid l hl).count_most in
    (i, rw i h, omega (arith, i, h, most))
