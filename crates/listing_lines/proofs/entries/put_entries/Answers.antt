use Prim.Native.Nat.{◌+◌}
use native.Mathlib.Omega.{arith}
use Rattle.listing_text.specs.Lines.{entry_lines}
use Rattle.listing_text.proofs.LineLengths.{lines_more, length_more}
use Rattle.text.proofs.Written.{writes_none, room_left, then}
use Rattle.listing_lines.proofs.LineParts.{lines_grow}
use Rattle.listing_lines.proofs.entries.put_entries.Goals as goal

pub loop-e-init : goal.loop-e-init
unfolding entry_lines
loop-e-init c = writes_none _

pub put_line-requires : goal.put_line-requires
put_line-requires c =
    let s = c.args.entries.now.bytes.now in
    let e = c.loop-e.e in
    rw c.entry_line.ensures.0 (room_left c.loop-e.invariant _ (entry_lines s c.args.n) (omega (arith, length_more s e, lines_grow s (e + 1) c.args.n (omega arith))) c.requires.1)

pub loop-e-preserved : goal.loop-e-preserved
loop-e-preserved c = rw lines_more (then c.loop-e.invariant (omega (arith, c.requires.1.fits)) (rw c.entry_line.ensures.0 at c.put_line.ensures))
