-- `listing_lines::entries::put_entries` meets its contract.
use Rattle.listing_text.specs.Lines.{entry_lines}
use Rattle.text.specs.Writing.{Writes}
use Rattle.listing_lines.proofs.entries.put_entries.Given as goal

abbrev pub invariant-loop-e : goal.invariant-loop-e
invariant-loop-e l = Writes l.initial.writer (entry_lines l.entries.bytes.now l.e) l.writer
