-- `entry_checks::entry::Entry::names_exist` meets its contract.
use Rattle.certificate.specs.Octets.{◌also◌}
use Rattle.certificate.specs.Records.{names_exist}
use Rattle.entry_checks.proofs.EntryPairs.{key_mode, key_cell}
use Rattle.entry_checks.proofs.entry.Entry.names_exist.Goals as goal

pub returns : goal.returns
unfolding names_exist ◌also◌
returns c =
    let checks = c.args.self.now.checks.now in
    rw (key_mode _ _ c.requires, key_cell _ _ checks.cell_count c.requires, c.signal.ensures.0, c.next_mode.ensures.0, checks.signals_are, checks.modes_are, checks.cells_are)
