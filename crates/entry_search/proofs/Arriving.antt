-- The ends of an entry's image with the arrivals of a box. Assumes nothing.
use Prim.Native.Nat.{ℕ, ◌+◌, ◌*◌, ◌≤◌, ◌<◌, min}
use mathlib.Core.List.{List}
use mathlib.Core.Bool.{Bool, false}
use mathlib.Core.Path.{◌≡◌, refl, ◌∙◌}
use native.Mathlib.Omega.{arith}
use lib.Dec.{ltb}
use lib.ListN.{get_or}
use Rattle.certificate.specs.Facts.{Readable}
use Rattle.certificate.specs.Layout.{links_of, boxes_of, low_of, high_of, cell_of, signal_of}
use Rattle.network.specs.Network.{network_of, is_green, entry_limit}
use Rattle.network.proofs.Screening.{entry_sound}
use Rattle.network.specs.Image.{high_corner, exceeds_cap}
use Rattle.images.specs.declared.ends.Ends.{Ends}
use Rattle.images.proofs.Arriving.{gross_arriving, end_arriving}
use Rattle.grid.specs.Cells.{lower_of, upper_of}
use Rattle.grid.specs.Successors.{image_low, image_high, image_over}
use Rattle.grid.proofs.Images.{image_is_smallest}
use Rattle.reading.proofs.Whole.{reads}
use Rattle.entry_setup.specs.declared.Tables.{Tables}
use Rattle.entry_setup.specs.declared.entry.Entry.{Entry}
use Rattle.entry_setup.specs.Bytes.{bytes_of}
use Rattle.entry_setup.specs.Tables.{EntryEnds}
use Rattle.entry_setup.proofs.EntryEnds.{screened}
use Rattle.entry_search.specs.Search.{EntryImage}

module _ (tables : Tables) (b : ℕ) (hb : b < boxes_of (bytes_of tables)) where
  R : Readable (bytes_of tables)
  R = reads tables.certificate.now

  -- arrivals are small
  pub lows_small : (l : ℕ) → l < links_of (bytes_of tables) → get_or tables.arrivals.now (16 * b + 2 * l) 0 ≤ 10000000000
  lows_small l hl = omega (arith, tables.arriving.low_is b l hb hl, (R.box b hb).low_most l hl, (R.box b hb).high_most l hl)

  pub highs_small : (l : ℕ) → l < links_of (bytes_of tables) → get_or tables.arrivals.now (16 * b + 1 + 2 * l) 0 ≤ 10000000000
  highs_small l hl = omega (arith, tables.arriving.high_is b l hb hl, (R.box b hb).high_most l hl)

-- the ends with the arrivals of a box are those of the image
module _ (entry : Entry) (b : ℕ) (ends image : Ends) (over : List Bool) (E : EntryEnds (bytes_of entry.tables.now) entry.number ends) (hb : b < boxes_of (bytes_of entry.tables.now)) where
  abbrev s : List ℕ
  s = bytes_of entry.tables.now

  abbrev tables : Tables
  tables = entry.tables.now

  pub image_is : ((l : ℕ) → l < links_of s → get_or image.low l 0 ≡ min (get_or tables.caps.now l 0) (get_or ends.low l 0 + get_or tables.arrivals.now (16 * b + 2 * l) 0))
      → ((l : ℕ) → l < links_of s → get_or image.high l 0 ≡ min (get_or tables.caps.now l 0) (get_or ends.high l 0 + get_or tables.arrivals.now (16 * b + 1 + 2 * l) 0))
      → ((l : ℕ) → l < links_of s → get_or over l false ≡ ltb (get_or tables.caps.now l 0) (get_or ends.high l 0 + get_or tables.arrivals.now (16 * b + 1 + 2 * l) 0))
      → EntryImage s entry.number b image over
  unfolding image_low image_high image_over exceeds_cap
  image_is lows highs overs =
      record {
        low_is = λ l hl. lows l hl ∙ rw (tables.capped l hl, tables.arriving.low_is b l hb hl) (end_arriving (network_of s) (entry_limit s entry.number) _ (low_of s b) l _ _ (E.low_is l hl) refl);
        high_is = λ l hl. highs l hl ∙ rw (tables.capped l hl, tables.arriving.high_is b l hb hl) (end_arriving (network_of s) (entry_limit s entry.number) _ (high_of s b) l _ _ (E.high_is l hl) refl);
        over_is = λ l hl. overs l hl ∙ rw (tables.capped l hl, tables.arriving.high_is b l hb hl, E.high_is l hl, gross_arriving (network_of s) (entry_limit s entry.number) 1 (high_corner (network_of s) l (lower_of s (cell_of s entry.number)) (upper_of s (cell_of s entry.number))) (high_of s b) l);
        smallest = image_is_smallest s (reads tables.certificate.now) (is_green s (signal_of s entry.number)) (entry_limit s entry.number) (entry_sound s (screened tables) entry.number entry.found.exists) b (cell_of s entry.number) hb;
      }
