-- What a writer has room for, and what it wrote.
use Rattle.std.specs.Prelude.{ℕ, List, ◌≡◌}
use Rattle.text.specs.declared.Writer.{Writer}
use Rattle.text.specs.TextPut.{Room, Put}

-- the text fits at the writer's place
abbrev pub HasRoom : Writer → List ℕ → Type 0
HasRoom writer text = Room writer.buffer.now writer.at text

-- the text was put there, and the writer, still with the same buffer, is at the place after it
pub record Writes (before : Writer) (text : List ℕ) (after : Writer) : Type 0 where
  pub same_buffer : after.buffer.ghost_name ≡ before.buffer.ghost_name
  pub put : Put before.buffer.now before.at text after.buffer.now after.at
