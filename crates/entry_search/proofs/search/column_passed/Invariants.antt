-- `entry_search::search::column_passed` meets its contract.
use Prim.Native.Nat.{◌+◌}
use mathlib.Core.Path.{◌≡◌}
use lib.ListN.{get_or}
use Rattle.successors.specs.Ranges.{how_many}
use Rattle.entry_setup.specs.Bytes.{bytes_of}
use Rattle.entry_search.specs.Search.{passes}
use Rattle.entry_search.proofs.search.column_passed.Given as goal

abbrev pub invariant-loop-run : goal.invariant-loop-run
invariant-loop-run l = l.passed ≡ how_many l.run-index (λ i. passes (bytes_of l.entry.tables.now) l.entry.number (get_or l.runs i 0 + l.j))
