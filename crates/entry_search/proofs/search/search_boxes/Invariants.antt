-- `entry_search::search::search_boxes` meets its contract: before every box and every cell, what is found from there on with what was counted
-- is what the definition finds.
use Prim.Native.Nat.{◌+◌, ◌*◌, ◌≤◌}
use mathlib.Core.Path.{◌≡◌}
use Rattle.std.specs.Prelude.{None}
use Rattle.certificate.specs.Loops.{any_to}
use Rattle.judging.specs.Overflow.{box_overflows}
use Rattle.entry_setup.specs.Bytes.{bytes_of}
use Rattle.entry_search.specs.Search.{box_alone, boxes_from}
use Rattle.entry_search.proofs.Searching.{cells_alone}
use Rattle.entry_search.proofs.search.search_boxes.Given as goal

abbrev pub invariant-search : goal.invariant-search
invariant-search l = let s = bytes_of l.entry.tables.now in
    (boxes_from s l.entry.number l.b l.searched.count ≡ boxes_from s l.entry.number 0 l.count)
    × (l.searched.count ≤ 32768 * l.entry.number + 4096 * l.b) × (l.searched.over ≡ any_to l.b (box_overflows s l.entry.number))
    × (l.refused ≡ None)

abbrev pub invariant-loop-d : goal.invariant-loop-d
invariant-loop-d l = let s = bytes_of l.entry.tables.now in
    (cells_alone s l.entry.number l.b l.d l.searched.count ≡ box_alone s l.entry.number l.b l.initial.searched.count)
    × (l.searched.count ≤ l.initial.searched.count + l.d) × (l.searched.over ≡ any_to (l.b + 1) (box_overflows s l.entry.number))
    × (l.refused ≡ None)
