-- Bounds that the code keeps for offsets, far above those of any certificate, so that no sum of offsets and sizes wraps.
use Rattle.std.specs.Prelude.{ℕ}

-- of where the records of a kind begin; of where the first GR does
abbrev pub start_bound : ℕ
start_bound = 100000

abbrev pub grids_bound : ℕ
grids_bound = 50000

-- of where an entry stands, however many there are
abbrev pub entry_bound : ℕ
entry_bound = 900000

-- of any offset, and of any place of a report
abbrev pub offset_bound : ℕ
offset_bound = 1000000
