-- A line as the code has it.
use Rattle.std.specs.Prelude.{ℕ, List, [], ◌∷◌, ◌++◌}
use Rattle.listing_text.specs.Text.{decimal, line_feed}
use Rattle.listing_lines.specs.declared.line.Field.{Field}

-- each number with the word before it, and then a line feed
unfoldable pub line_of : List Field → List ℕ
line_of [] = line_feed
line_of (f ∷ fs) = f.0.now ++ (decimal f.1 ++ line_of fs)
