-- What reading carries along from one record to the next.
use Rattle.std.specs.Prelude.{ℕ, ◌+◌, ◌-◌, ◌≤◌, ◌<◌, Bool, List, length, ◌≡◌, ltb, leb, eqb}
use Rattle.certificate.specs.Octets.{◌also◌}
use Rattle.certificate.specs.Layout.{max_share, max_pull, turn_size, links_of, turn_at, tail_of, head_of, from_of, to_of, share_of, pull_of}
use Rattle.certificate.specs.Records.{turn_fault, share_total}

-- the record of turn t is there whole
abbrev pub TurnWhole : List ℕ → ℕ → Type 0
TurnWhole s t = turn_at s t + turn_size ≤ length s

-- the tests of turn t (certificate specs/Records.antt, `turn_ok`) that do not look at other turns
abbrev pub turn_fits : List ℕ → ℕ → Bool
turn_fits s t =
    ltb (from_of s t) (links_of s) also ltb (to_of s t) (links_of s)
    also eqb (head_of s (from_of s t)) (tail_of s (to_of s t))
    also leb 1 (share_of s t) also leb (share_of s t) max_share
    also leb 1 (pull_of s t) also leb (pull_of s t) max_pull

-- the turns before turn t pass, and `before` is what the shares from the link of the last of them total
pub record SharesBefore (s : List ℕ) (t before : ℕ) : Type 0 where
  pub passed : (u : ℕ) → u < t → (turn_fault s u).number ≡ 0
  pub total : 0 < t → before ≡ share_total s (t - 1)
  pub most : before ≤ max_share
