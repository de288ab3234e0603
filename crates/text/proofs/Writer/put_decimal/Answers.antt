use mathlib.Core.Path.{◌≡◌, refl, ◌∙◌}
use Prim.Native.Nat.{◌-◌, ◌<◌, ◌≤◌}
use native.Mathlib.Omega.{arith}
use lib.ListN.{length-set}
use Rattle.listing_text.proofs.Digits.{length_step, decimal_least}
use Rattle.text.proofs.Digits.{digit_stored, digit_last, more_digits, one_digit}
use Rattle.text.proofs.Writer.put_decimal.Goals.{After-loop-i}
use Rattle.text.proofs.Writer.put_decimal.Goals as goal

pub loop-i-preserved : goal.loop-i-preserved
loop-i-preserved c =
    let l = c.loop-i in
    let at = c.args.self.now.at in
    let ten : 10 ≤ l.left = more_digits l.left (omega arith) in
    record {
      same_buffer = l.invariant.same_buffer;
      same_length = rw length-set l.invariant.same_length;
      same_place = l.invariant.same_place;
      ten_digits = omega arith;
      digits_left = omega (arith, length_step l.left (omega arith) ten);
      bytes = digit_stored l.self.buffer.now at l.left (l.i - 1) _ (omega arith) (omega arith) ten (omega arith) refl ∙ l.invariant.bytes;
    }

-- after the loop one digit is left
last : (c : After-loop-i) → c.loop-i.left < 10
last c = one_digit c.loop-i.left (omega arith) (omega arith)

pub overflow_cast-self-2 : goal.overflow_cast-self-2
overflow_cast-self-2 c = omega (arith, last (goal.at.overflow_cast-self-2 c).After-loop-i)

pub overflow_add-self-2 : goal.overflow_add-self-2
overflow_add-self-2 c = omega (arith, last (goal.at.overflow_add-self-2 c).After-loop-i)

pub bounds-self-self : goal.bounds-self-self
bounds-self-self c = omega (arith, decimal_least c.args.n)

pub returns : goal.returns
returns c =
    let l = c.loop-i in
    let small = last (goal.at.returns c).After-loop-i in
    let front : l.self.at ≡ c.args.self.now.at = l.invariant.same_place in
    record {
      same_buffer = l.invariant.same_buffer;
      put = record { bytes = digit_last l.self.buffer.now l.left l.self.at _ (omega (arith, decimal_least c.args.n)) small refl ∙ rw front l.invariant.bytes; place = omega arith };
    }
