-- `successors::ranges::upper_at` meets its contract.
use Rattle.std.proofs.Common.{ℕ, ◌+◌, ◌*◌, ◌<◌, arith}
use Rattle.certificate.specs.Layout.{links_of, intervals_of}
use Rattle.grid.proofs.Edges.{upper_most}
use Rattle.reading.specs.declared.Certificate.{Certificate}
use Rattle.reading.proofs.Whole.{reads, links_most, intervals_most, cap_most}
use Rattle.successors.proofs.ranges.upper_at.Goals as goal

-- the edge stands in the table
place : (w : Certificate) (l i : ℕ) → l < links_of w.bytes.now → i < intervals_of w.bytes.now l → 16 * l + i + 1 < 128
place w l i lt h = omega (arith, links_most w, intervals_most w l lt)

pub overflow_add-result : goal.overflow_add-result
overflow_add-result c = omega (arith, place c.args.certificate.now _ _ c.requires.1 c.requires.2)

pub overflow_add-result-2 : goal.overflow_add-result-2
overflow_add-result-2 c = omega (arith, place c.args.certificate.now _ _ c.requires.1 c.requires.2)

pub offset_bounds-edges-l : goal.offset_bounds-edges-l
offset_bounds-edges-l c = omega (arith, place c.args.certificate.now _ _ c.requires.1 c.requires.2)

pub bounds-edges-l : goal.bounds-edges-l
bounds-edges-l c = omega (arith, place c.args.certificate.now _ _ c.requires.1 c.requires.2)

pub overflow_mul-result-2 : goal.overflow_mul-result-2
overflow_mul-result-2 c =
    let w = c.args.certificate.now in
    omega (arith, c.requires.0.upper c.args.l c.args.i c.requires.1 c.requires.2, upper_most w.bytes.now (reads w) c.args.l c.requires.1 c.args.i, cap_most w c.args.l c.requires.1)
