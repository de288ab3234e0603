-- Looking up the entry of a cell and a mode.
use Rattle.std.specs.Prelude.{ℕ, List, Bool, ◌&&◌, eqb, ltb}
use Rattle.certificate.specs.Loops.{find}
use Rattle.certificate.specs.Layout.{entries_of}
use Rattle.certificate.specs.Entries.{cabinet_entry_of}

-- entry e has the pair (c, m): by the cabinet's reading, so no rank is read to find an entry
abbrev pub is_for : List ℕ → ℕ → ℕ → ℕ → Bool
is_for s c m e = eqb (cabinet_entry_of s e).cell c && eqb (cabinet_entry_of s e).mode m

-- the entry of cell c and mode m, and the number of entries where there is none
unfoldable pub entry_for : List ℕ → ℕ → ℕ → ℕ
entry_for s c m = find (entries_of s) (is_for s c m)

-- cell c is listed for mode m: the certificate has an EN record with that pair
unfoldable pub is_listed : List ℕ → ℕ → ℕ → Bool
is_listed s c m = ltb (entry_for s c m) (entries_of s)
