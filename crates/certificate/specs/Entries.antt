-- Two readings of an EN record (document 02, 7/14): the street cabinet needs signal and next mode, the bench the rank as well.
use Rattle.std.specs.Prelude.{ℕ, ◌+◌, ◌<◌, List, ◌⊎◌, ◌≡◌, length}
use Rattle.certificate.specs.declared.CabinetEntry.{CabinetEntry}
use Rattle.certificate.specs.declared.BenchEntry.{BenchEntry}
use Rattle.certificate.specs.Octets.{byte_at}
use Rattle.certificate.specs.Layout.{entries_of, entry_at, cell_of, mode_of, signal_of, next_mode_of, rank_of}

-- what the cabinet reads of entry e: bytes 2 to 6 of its record. It skips the rank
abbrev pub cabinet_entry_of : List ℕ → ℕ → CabinetEntry
cabinet_entry_of s e = record { cell = cell_of s e; mode = mode_of s e; signal = signal_of s e; next_mode = next_mode_of s e }

-- what the bench reads of it: bytes 2 to 8, the rank as well
abbrev pub bench_entry_of : List ℕ → ℕ → BenchEntry
bench_entry_of s e = record { shown = cabinet_entry_of s e; rank = rank_of s e }

-- offset o is one of the two bytes of an entry's rank
abbrev pub IsRankByte : List ℕ → ℕ → Type 0
IsRankByte s o = (e : ℕ) × (e < entries_of s) × ((o ≡ entry_at s e + 7) ⊎ (o ≡ entry_at s e + 8))

-- the bytes of s and t differ only in ranks: as many bytes, and the same byte wherever no rank of s stands
pub record DifferInRanks (s t : List ℕ) : Type 0 where
  pub size : length s ≡ length t
  pub bytes : (o : ℕ) → (IsRankByte s o → ⊥) → byte_at s o ≡ byte_at t o
