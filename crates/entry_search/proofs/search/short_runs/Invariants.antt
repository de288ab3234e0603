-- `entry_search::search::short_runs` meets its contract.
use mathlib.Core.Path.{◌≡◌}
use Rattle.certificate.specs.Loops.{sum_to}
use Rattle.entry_setup.specs.Bytes.{bytes_of}
use Rattle.entry_search.specs.Search.{column_passing}
use Rattle.entry_search.proofs.search.short_runs.Given as goal

abbrev pub invariant-loop-j : goal.invariant-loop-j
invariant-loop-j l = l.passed ≡ sum_to l.j (column_passing (bytes_of l.entry.tables.now) l.entry.number l.runs)
