-- `verdict::rank_table` meets its contract.
use Rattle.std.proofs.Common.{rules}
use Rattle.rank_tables.proofs.Finding.{ascends}
use Rattle.verdict.proofs.rank_table.Goals as goal

pub fill_ranks-requires : goal.fill_ranks-requires
fill_ranks-requires c =
    let certificate = c.args.certificate.now in
    rw (c.index_of-index.ensures, c.entries.ensures) (ascends certificate, certificate.laid.modes_most, certificate.laid.modes_are, search rules)
