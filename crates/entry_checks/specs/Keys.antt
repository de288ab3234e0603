-- What the tests of entries go by, one entry after another.
use Rattle.std.specs.Prelude.{ℕ, ◌+◌, ◌*◌, ◌-◌, ◌≤◌, ◌<◌, List, ◌≡◌, length}
use Rattle.certificate.specs.Checks.{refusal, fine, need}
use Rattle.certificate.specs.Layout.{entry_size, entry_at, cell_of, mode_of}
use Rattle.certificate.specs.Records.{passes_on, turns_on, entry_fault}

-- key is the pair of entry e as one number, cell × 256 + mode
pub record IsKey (s : List ℕ) (e key : ℕ) : Type 0 where
  pub is : key ≡ cell_of s e * 256 + mode_of s e
  pub mode_most : mode_of s e < 256
  pub most : key < 16777216

-- `least` is one above the key of the entry before entry e, and 0 where there is none
pub record KeyBefore (s : List ℕ) (e least : ℕ) : Type 0 where
  pub none : e ≡ 0 → least ≡ 0
  pub some : 0 < e → 1 ≤ least
  pub after : 0 < e → IsKey s (e - 1) (least - 1)

-- entry e is there whole and passes its tests up to the order, so that 23 and 24 alone may refuse it
pub record Ordered (s : List ℕ) (e : ℕ) : Type 0 where
  pub whole : entry_at s e + entry_size ≤ length s
  pub rest : entry_fault s e ≡ need (passes_on s e) (refusal 23 (entry_at s e)) (need (turns_on s e) (refusal 24 (entry_at s e)) fine)
