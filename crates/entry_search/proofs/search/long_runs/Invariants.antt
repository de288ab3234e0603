-- `entry_search::search::long_runs` meets its contract.
use mathlib.Core.Path.{◌≡◌}
use lib.ListN.{get_or}
use Rattle.certificate.specs.Loops.{sum_to}
use Rattle.entry_setup.specs.Bytes.{bytes_of}
use Rattle.entry_search.specs.Search.{run_passing}
use Rattle.entry_search.proofs.search.long_runs.Given as goal

abbrev pub invariant-loop-first : goal.invariant-loop-first
invariant-loop-first l = l.passed ≡ sum_to l.first-index (λ i. run_passing (bytes_of l.entry.tables.now) l.entry.number (get_or l.runs i 0) l.size)
