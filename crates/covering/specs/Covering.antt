-- When one certificate covers another (document 02, 8/14): all their bytes before the first EN agree, the entry count in the first record left
-- aside, and every pair of cell and mode listed in the other is listed in it with a rank no higher.
use Rattle.std.specs.Prelude.{ℕ, ◌≤◌, ◌<◌, List, Bool, ◌&&◌, ◌||◌, ◌≡◌, eqb, leb}
use Rattle.certificate.specs.Octets.{byte_at}
use Rattle.certificate.specs.Loops.{every}
use Rattle.certificate.specs.Layout.{entries_of, entries_start, cell_of, mode_of, rank_of}
use Rattle.judging.specs.Lookup.{entry_for, is_listed}
use Rattle.judging.specs.Conditions.{Lists}

-- In plain terms, for any bytes.

-- the first EN stands at the same offset, and all bytes before it agree but the two of the entry count, 7 and 8: the kind, all other counts, LK, TN,
-- SG, MD, GR and AR
pub record SameFront (s t : List ℕ) : Type 0 where
  pub start : entries_start s ≡ entries_start t
  pub bytes : (o : ℕ) → o < entries_start s → (o ≡ 7 → ⊥) → (o ≡ 8 → ⊥) → byte_at s o ≡ byte_at t o

-- the pair of entry f of t is listed in s, with a rank no higher; signal and next mode may differ
abbrev pub Matched : List ℕ → List ℕ → ℕ → Type 0
Matched s t f = (e : ℕ) × Lists s (cell_of t f) (mode_of t f) e × (rank_of s e ≤ rank_of t f)

-- s covers t; s may list more pairs than t, with any ranks
pub record Covers (s t : List ℕ) : Type 0 where
  pub front : SameFront s t
  pub pairs : (f : ℕ) → f < entries_of t → Matched s t f

-- As tests, which decide it for certificates that can be read (law `CoversIsPlain`).

-- the byte at o is one of the entry count, or the same in both
unfoldable pub byte_agrees : List ℕ → List ℕ → ℕ → Bool
byte_agrees s t o = eqb o 7 || (eqb o 8 || eqb (byte_at s o) (byte_at t o))

unfoldable pub same_front : List ℕ → List ℕ → Bool
same_front s t = eqb (entries_start s) (entries_start t) && every (entries_start s) (byte_agrees s t)

unfoldable pub is_matched : List ℕ → List ℕ → ℕ → Bool
is_matched s t f = is_listed s (cell_of t f) (mode_of t f) && leb (rank_of s (entry_for s (cell_of t f) (mode_of t f))) (rank_of t f)

unfoldable pub covers : List ℕ → List ℕ → Bool
covers s t = same_front s t && every (entries_of t) (is_matched s t)
