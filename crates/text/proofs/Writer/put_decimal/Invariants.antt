-- `text::Writer::put_decimal` meets its contract.
use mathlib.Core.Path.{◌≡◌}
use Prim.Native.Nat.{◌+◌, ◌<◌, ◌^◌}
use lib.ListN.{length}
use Rattle.listing_text.specs.Text.{decimal}
use Rattle.text.specs.TextPut.{written}
use Rattle.text.proofs.Writer.put_decimal.Given as goal

-- the digits of what is left, put in front of those that are there, complete the text
abbrev pub invariant-loop-i : goal.invariant-loop-i
invariant-loop-i l =
    let start = l.initial.self in
    record {
      same_buffer : l.self.buffer.ghost_name ≡ start.buffer.ghost_name;
      same_length : length l.self.buffer.now ≡ length start.buffer.now;
      same_place : l.self.at ≡ start.at;
      ten_digits : l.left < 10 ^ 10;
      digits_left : l.i ≡ start.at + length (decimal l.left);
      bytes : written l.self.buffer.now start.at (decimal l.left) ≡ written start.buffer.now start.at (decimal l.n);
    }
