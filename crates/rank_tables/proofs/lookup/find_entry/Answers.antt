-- `rank_tables::lookup::find_entry` meets its contract: the cells of a certificate's entries ascend.
use native.Mathlib.Omega.{arith}
use Rattle.rank_tables.proofs.Finding.{ascends}
use Rattle.rank_tables.proofs.lookup.find_entry.Goals as goal

pub among-requires : goal.among-requires
among-requires c =
    let certificate = c.args.certificate.now in
    let last = c.first_at-end.ensures.1 in
    rw c.entries.ensures (ascends certificate, omega (arith, last, certificate.laid.entries_are, certificate.laid.entries_most), last)
