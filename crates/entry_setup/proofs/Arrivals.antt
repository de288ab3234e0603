-- The table of arrivals. Assumes nothing.
use Prim.Native.Nat.{ℕ, ◌+◌, ◌*◌, ◌/◌, ◌%◌, ◌≤◌}
use mathlib.Core.List.{List}
use mathlib.Core.Path.{◌≡◌, ◌∙◌}
use native.Mathlib.Omega.{arith}
use Rattle.certificate.specs.Layout.{links_of, boxes_of}
use Rattle.octets.specs.Tables.{Holds}
use Rattle.entry_setup.specs.Tables.{ArrivalsOf, arrival_entry}

-- a table filled entry by entry holds the arrivals of each box
pub arrivals_filled : (s a : List ℕ) (n : ℕ) → links_of s ≤ 8 → n ≡ 16 * boxes_of s → Holds n (arrival_entry s) a → ArrivalsOf s a
unfolding arrival_entry
arrivals_filled s a n few w h =
    record {
      low_is = λ b l hb hl.
          let q : (16 * b + 2 * l) / 16 ≡ b = omega arith in
          let p : 2 + 2 * ((16 * b + 2 * l) % 16) ≡ 2 + 4 * l = omega arith in
          h (16 * b + 2 * l) (omega arith) ∙ rw (q, p);
      high_is = λ b l hb hl.
          let q : (16 * b + 1 + 2 * l) / 16 ≡ b = omega arith in
          let p : 2 + 2 * ((16 * b + 1 + 2 * l) % 16) ≡ 4 + 4 * l = omega arith in
          h (16 * b + 1 + 2 * l) (omega arith) ∙ rw (q, p);
    }
