-- `listing_lines::line::line_length` meets its contract.
use mathlib.Core.Path.{◌≡◌}
use Prim.Native.Nat.{◌+◌}
use lib.ListN.{length, drop}
use Rattle.listing_lines.specs.Fields.{line_of}
use Rattle.listing_lines.proofs.line.line_length.Given as goal

-- what is counted and the fields from here on are the whole line
abbrev pub invariant-loop-word : goal.invariant-loop-word
invariant-loop-word l = l.total + length (line_of (drop l.word-index l.fields)) ≡ length (line_of l.fields)
