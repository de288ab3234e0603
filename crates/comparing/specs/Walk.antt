-- What the walk through two tables of entries goes by. The pairs (cell, mode) of both ascend, so one pass over each is enough.
use Rattle.std.specs.Prelude.{ℕ, ◌+◌, ◌*◌, ◌≤◌, ◌<◌, List, Bool, ◌&&◌, ltb, eqb, leb}
use Rattle.certificate.specs.Layout.{entries_of, cell_of, mode_of, rank_of}

-- the pair of entry e as one number; modes are below 256, so pairs ascend as these numbers do
abbrev pub key_of : List ℕ → ℕ → ℕ
key_of s e = cell_of s e * 256 + mode_of s e

-- all entries before e have keys below this one
abbrev pub KeysBelow : List ℕ → ℕ → ℕ → Type 0
KeysBelow s e key = (i : ℕ) → i < e → key_of s i < key

-- e is the first entry with a key at or above this one, and the number of entries where there is none
pub record AtOrAbove (s : List ℕ) (key e : ℕ) : Type 0 where
  pub most : e ≤ entries_of s
  pub before : KeysBelow s e key
  pub here : e < entries_of s → key ≤ key_of s e

-- entry e of s is there and has the pair of entry f of t, with a rank no higher
unfoldable pub is_matched_by : List ℕ → List ℕ → ℕ → ℕ → Bool
is_matched_by s t e f = (ltb e (entries_of s) && eqb (key_of s e) (key_of t f)) && leb (rank_of s e) (rank_of t f)
