-- The stages of reading, put together: how they follow one another, and where the records begin. Assumes nothing.
use Prim.Native.Nat.{ℕ, ◌+◌, ◌*◌, ◌≤◌, ◌<◌}
use mathlib.Core.Bool.{Bool, true, false}
use mathlib.Core.List.{List}
use mathlib.Core.Path.{◌≡◌, refl, ap, ◌∙◌}
use native.Mathlib.Omega.{arith}
use borrow.Author.Tests.{ltb-true, ltb-false}
use lib.ListN.{get_or}
use lib.Dec.{ltb}
use Rattle.std.specs.Prelude.{Result}
use Rattle.std.specs.Result.{IsErr}
use Rattle.std.proofs.lemmas.Result.{IfOk-from_err}
use Rattle.certificate.specs.declared.Report.{Report}
use Rattle.certificate.specs.Loops.{pick}
use Rattle.certificate.specs.Checks.{or_else, first_bad}
use Rattle.certificate.specs.Layout.{max_links, max_modes, arrival_size, mode_size, links_of, turns_of, signals_of, modes_of, boxes_of, entries_of, link_at, turns_start, turn_at, signals_start, signal_at, mode_records_of, modes_start, mode_at, grid_start, grid_at, arrivals_start, arrival_at, entries_start}
use Rattle.certificate.specs.Records.{header_fault}
use Rattle.certificate.specs.Reading.{links_fault, turns_fault, signals_fault, reading_of}
use Rattle.certificate.specs.Facts.{HeaderFacts}
use Rattle.box_records.specs.GridRecords.{GridsLaid}
use Rattle.octets.specs.declared.refusals.Refused.{Refused}
use Rattle.octets.specs.Refusals.{told}
use Rattle.reading.specs.declared.Certificate.{Certificate}
use Rattle.reading.specs.Layouts.{grid_place, LaidOut}
use Rattle.reading.specs.ReadingResults.{StartsOf, network_fault, tail_fault, back_fault, ReadAs}
use Rattle.octets.specs.Tables.{table_of}
use Rattle.mode_records.specs.Placed.{size_bound}
use Rattle.certificate.proofs.KindSizes.{records_most, all_modes_most}
use Rattle.octets.proofs.Cases.{in_groups}
use Rattle.octets.proofs.FilledTables.{table_is}
use Rattle.box_records.proofs.Products.{box_offset}
use Rattle.certificate.proofs.Offsets.{grid_end}
use Rattle.certificate.proofs.Records.{header_says}

-- so many records were tested as there are
pub as_many : {n m : ℕ} {r : Report} (f : ℕ → Report) → n ≡ m → r ≡ first_bad n f → r ≡ first_bad m f
as_many f e h = rw (← e) h

-- what a stage refuses is the answer
pub refused_as : (s : List ℕ) (fault : Report) (r : Result Certificate Refused) → IsErr r → told r ≡ fault → ReadAs s fault r
refused_as s fault r e t = record { told_is = t; bytes_are = IfOk-from_err r _ e }

module _ (s : List ℕ) where
  -- reading is HD, then the network, then all from GR on
  pub in_stages : or_else (header_fault s) (or_else (network_fault s) (back_fault s)) ≡ reading_of s
  unfolding reading_of network_fault back_fault tail_fault
  in_stages = ap (or_else (header_fault s)) (in_groups (links_fault s) _ _ ∙ ap (or_else (links_fault s)) (in_groups (turns_fault s) _ _ ∙ ap (or_else (turns_fault s)) (in_groups (signals_fault s) _ _)))

  pub header_facts : (header_fault s).number ≡ 0 → HeaderFacts s
  header_facts z = ((header_says s).0 z).1

  -- where the records begin, from the counts of HD
  pub turns_begin : {links first : ℕ} → links ≡ links_of s → first ≡ link_at s links → first ≡ turns_start s
  unfolding turns_start
  turns_begin e p = p ∙ ap (link_at s) e

  pub signals_begin : {turns second : ℕ} → turns ≡ turns_of s → second ≡ turn_at s turns → second ≡ signals_start s
  unfolding signals_start
  signals_begin e p = p ∙ ap (turn_at s) e

  pub modes_begin : {signals third : ℕ} → signals ≡ signals_of s → third ≡ signal_at s signals → third ≡ modes_start s
  unfolding modes_start
  modes_begin e p = p ∙ ap (signal_at s) e

  pub grids_begin : {records fourth : ℕ} → records ≡ mode_records_of s → fourth ≡ mode_at s records → fourth ≡ grid_start s
  unfolding grid_start
  grids_begin e p = p ∙ ap (mode_at s) e

  -- none of them lies far behind
  pub starts_are : HeaderFacts s → (first second third fourth : ℕ)
      → first ≡ turns_start s → first ≤ 4000 → second ≡ signals_start s → third ≡ modes_start s → fourth ≡ grid_start s
      → StartsOf s first second third fourth
  unfolding signals_start modes_start grid_start
  starts_are H first second third fourth p1 far p2 p3 p4 =
      let most = all_modes_most s H.links_most (mode_records_of s) max_modes (omega (arith, records_most s, H.modes_most)) in
      record {
        turns_is = p1;
        turns_most = omega arith;
        signals_is = p2;
        signals_most = omega (arith, H.turns_most);
        modes_is = p3;
        modes_most = omega (arith, H.turns_most, H.signals_most);
        grids_is = p4;
        grids_most = omega (arith, H.turns_most, H.signals_most);
      }

  -- the places of the grid records, as a table
  places_are : {places : List ℕ} {stop cells : ℕ} → GridsLaid s (links_of s) places stop cells → places ≡ table_of max_links (grid_place s)
  places_are {places} L = table_is max_links (grid_place s) places L.sized (λ l _. go l (ltb l (links_of s)) refl)
    where
      go : (l : ℕ) (b : Bool) → ltb l (links_of s) ≡ b → get_or places l 0 ≡ pick b (grid_at s l) 0
      go l true e = L.place l (ltb-true _ _ e)
      go l false e = L.no_place l (ltb-false _ _ e)

  -- the layout, from the counts of HD and from the grid records
  pub laid_out : {places : List ℕ} {stop cells links turns signals modes boxes entries first_turn first_signal first_mode first_grid size first_entry : ℕ}
      → HeaderFacts s → StartsOf s first_turn first_signal first_mode first_grid → GridsLaid s (links_of s) places stop cells
      → links ≡ links_of s → turns ≡ turns_of s → signals ≡ signals_of s → modes ≡ modes_of s → boxes ≡ boxes_of s → entries ≡ entries_of s
      → first_entry ≡ arrival_at s boxes → size ≡ mode_size s → size ≤ size_bound
      → LaidOut s
      (record {
        links = links;
        turns = turns;
        signals = signals;
        modes = modes;
        boxes = boxes;
        entries = entries;
        turns_start = first_turn;
        signals_start = first_signal;
        modes_start = first_mode;
        mode_size = size;
        grids = places;
        arrivals_start = stop;
        entries_start = first_entry;
        cells = cells;
      })
  unfolding arrivals_start entries_start
  laid_out {places = places} {stop = stop} {links = links} {boxes = boxes} H S L el et es em eb ee ef z few_bytes =
      let few : links ≤ 8 = omega (arith, H.links_most) in
      let far : arrival_size (links_of s) * boxes ≤ 8704 = box_offset (links_of s) boxes H.links_most (omega (arith, H.boxes_most)) in
      record {
        is = rw (ef, el, et, es, em, eb, ee, S.turns_is, S.signals_is, S.modes_is, z, L.end_is, L.cells_are, places_are L);
        links_are = el;
        links_least = omega (arith, H.links_least);
        links_most = few;
        turns_are = et;
        turns_most = omega (arith, H.turns_most);
        signals_are = es;
        signals_least = omega (arith, H.signals_least);
        signals_most = omega (arith, H.signals_most);
        modes_are = em;
        modes_least = omega (arith, H.modes_least);
        modes_most = omega (arith, H.modes_most);
        boxes_are = eb;
        boxes_least = omega (arith, H.boxes_least);
        boxes_most = omega (arith, H.boxes_most);
        entries_are = ee;
        entries_least = omega (arith, H.entries_least);
        entries_most = omega (arith, H.entries_most);
        turns_start_is = S.turns_is;
        turns_start_most = omega (arith, S.turns_most);
        signals_start_is = S.signals_is;
        signals_start_most = omega (arith, S.signals_most);
        modes_start_is = S.modes_is;
        modes_start_most = omega (arith, S.modes_most);
        mode_size_is = z;
        mode_size_most = few_bytes;
        grid_is = L.place;
        grid_most = λ l lt. omega (arith, grid_end s l lt, L.end_is, L.end_most);
        arrivals_start_is = L.end_is;
        arrivals_start_most = omega (arith, L.end_most);
        entries_start_is = rw (ef, eb);
        entries_start_most = omega (arith, L.end_is, L.end_most, H.links_most);
        cells_are = L.cells_are;
        cells_least = L.cells_least;
        cells_most = L.cells_most;
      }
