-- `rank_tables::ranks::fill_ranks` meets its contract. The loop fills the table slot by slot.
use Prim.Native.Nat.{◌+◌, ◌*◌}
use Rattle.octets.proofs.FilledTables.{Filled}
use Rattle.rank_tables.proofs.Ranking.{rank_entry}
use Rattle.rank_tables.proofs.ranks.fill_ranks.Given as goal

abbrev pub invariant-loop-m : goal.invariant-loop-m
invariant-loop-m l = Filled 32768 (l.m * l.cells) (rank_entry l.index.entries.bytes.now) l.ranks

abbrev pub invariant-loop-d : goal.invariant-loop-d
invariant-loop-d l = Filled 32768 (l.m * l.cells + l.d) (rank_entry l.index.entries.bytes.now) l.ranks
