-- `listing_lines::entries::entries_length` meets its contract.
use mathlib.Core.Path.{◌≡◌}
use Prim.Native.Nat.{◌*◌, ◌≤◌}
use lib.ListN.{length}
use Rattle.listing_text.specs.Lines.{entry_lines}
use Rattle.listing_lines.proofs.entries.entries_length.Given as goal

abbrev pub invariant-loop-e : goal.invariant-loop-e
invariant-loop-e l = (l.total ≡ length (entry_lines l.entries.bytes.now l.e)) × (l.total ≤ 55 * l.e)
