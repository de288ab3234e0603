-- The lines of a listing: counts, one for each entry, and the verdict.
use Rattle.std.specs.Prelude.{ℕ, zero, suc, List, [], ◌++◌}
use Rattle.certificate.specs.declared.Report.{Report}
use Rattle.certificate.specs.declared.BenchEntry.{BenchEntry}
use Rattle.certificate.specs.Layout.{links_of, turns_of, signals_of, modes_of, boxes_of, entries_of}
use Rattle.certificate.specs.Entries.{bench_entry_of}
use Rattle.listing_text.specs.Text.{decimal, space, line_feed, field, links_word, turns_word, signals_word, modes_word, arrivals_word, entries_word, accepted_word, refused_word}

unfoldable pub counts_line : List ℕ → List ℕ
counts_line s =
    field links_word (links_of s) ++ (space ++ (field turns_word (turns_of s) ++ (space ++ (field signals_word (signals_of s)
    ++ (space ++ (field modes_word (modes_of s) ++ (space ++ (field arrivals_word (boxes_of s)
    ++ (space ++ (field entries_word (entries_of s) ++ line_feed))))))))))

-- what the bench reads of an entry: cell, mode, signal, next mode, rank
abbrev pub bench_line : BenchEntry → List ℕ
bench_line r =
    decimal r.shown.cell ++ (space ++ (decimal r.shown.mode ++ (space ++ (decimal r.shown.signal
    ++ (space ++ (decimal r.shown.next_mode ++ (space ++ (decimal r.rank ++ line_feed))))))))

-- entry e
unfoldable pub entry_line : List ℕ → ℕ → List ℕ
entry_line s e = bench_line (bench_entry_of s e)

-- the lines of the entries before n
unfoldable pub entry_lines : List ℕ → ℕ → List ℕ
entry_lines s zero = []
entry_lines s (suc n) = entry_lines s n ++ entry_line s n

-- accepted, the count, and the number n of entries that may turn arrivals away
unfoldable pub accepted_line : Report → ℕ → List ℕ
accepted_line r n = field accepted_word r.count ++ (space ++ (decimal n ++ line_feed))

-- refused, number, A, B, count
unfoldable pub refused_line : Report → List ℕ
refused_line r =
    field refused_word r.number ++ (space ++ (decimal r.a ++ (space ++ (decimal r.b ++ (space ++ (decimal r.count
    ++ line_feed))))))
