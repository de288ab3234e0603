-- `entry_search::search::run_passed` meets its contract.
use mathlib.Core.Path.{◌≡◌}
use Rattle.entry_setup.specs.Bytes.{bytes_of}
use Rattle.entry_search.specs.Search.{run_passing}
use Rattle.entry_search.proofs.search.run_passed.Given as goal

abbrev pub invariant-loop-j : goal.invariant-loop-j
invariant-loop-j l = l.passed ≡ run_passing (bytes_of l.entry.tables.now) l.entry.number l.first l.j
