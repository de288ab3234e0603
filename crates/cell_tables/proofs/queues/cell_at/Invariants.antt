-- `cell_tables::queues::cell_at` meets its contract. The loop has the number of the links passed.
use Prim.Native.Nat.{ℕ}
use mathlib.Core.List.{List}
use mathlib.Core.Path.{◌≡◌}
use lib.ListN.{get_or}
use Rattle.grid.specs.Cells.{number_of}
use Rattle.cell_tables.proofs.Locating.{placed}
use Rattle.cell_tables.proofs.queues.cell_at.Given as goal

-- the interval of each link that holds its queue
abbrev pub located : List ℕ → ℕ → List ℕ → ℕ → ℕ
located s D x = placed s (λ _. D) (λ l. get_or x l 0)

abbrev pub invariant-loop-l : goal.invariant-loop-l
invariant-loop-l l = l.cell ≡ number_of l.certificate.bytes.now (located l.certificate.bytes.now l.scale l.queues) l.l
