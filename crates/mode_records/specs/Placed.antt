-- The bound that the code keeps for the size of a mode's record.
use Rattle.std.specs.Prelude.{ℕ}

-- of a record's size, however many links there are
abbrev pub size_bound : ℕ
size_bound = 600
