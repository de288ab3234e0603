-- `listing_lines::line::put_line` meets its contract.
use lib.ListN.{drop}
use Rattle.listing_lines.specs.Fields.{line_of}
use Rattle.text.proofs.Written.{Rest}
use Rattle.listing_lines.proofs.line.put_line.Given as goal

-- the fields from here on are the rest
abbrev pub invariant-loop-word : goal.invariant-loop-word
invariant-loop-word l = Rest l.initial.writer (line_of l.fields) l.writer (line_of (drop l.word-index l.fields))
