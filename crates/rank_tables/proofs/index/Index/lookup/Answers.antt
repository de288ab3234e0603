-- `rank_tables::index::Index::lookup` meets its contract: elements d and d + 1 of the index bound the entries of cell d.
use native.Mathlib.Omega.{arith}
use Prim.Native.Nat.{ℕ, ◌+◌, ◌<◌}
use mathlib.Core.List.{List}
use mathlib.Core.Path.{◌≡◌, ◌∙◌}
use lib.ListN.{get_or}
use Rattle.certificate.specs.Layout.{cells_of}
use Rattle.rank_tables.specs.Index.{CellFrom, IsIndex}
use Rattle.rank_tables.proofs.Finding.{from_most}
use Rattle.rank_tables.proofs.index.Index.lookup.Goals as goal

-- both elements are first entries
bounds : (s index : List ℕ) (d first end : ℕ) → IsIndex s index → d < cells_of s → first ≡ get_or index d 0 → end ≡ get_or index (d + 1) 0 → CellFrom s d first end
bounds s index d first end I lt f e = (f ∙ I d (omega arith), e ∙ I (d + 1) (omega arith))

pub among-requires : goal.among-requires
among-requires c =
    let I = c.args.self.now in
    let b = bounds _ _ _ _ _ I.is c.requires.1 c.from-first.ensures c.from-end.ensures in
    let last = from_most I.entries.bytes.now (c.args.d + 1) in
    (c.requires.0, omega (arith, b.1, last, I.count_is, I.count_most), omega (arith, b.1, last))
