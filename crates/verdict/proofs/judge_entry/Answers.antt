-- `verdict::judge_entry` meets its contract.
use Rattle.std.proofs.Common.{arith, refl}
use Rattle.reading.proofs.Whole.{reads}
use Rattle.entry_standing.proofs.EdgeLimits.{standing_count}
use Rattle.octets.proofs.Outcomes.{left_after}
use Rattle.verdict.proofs.Chaining.{not_standing, searched}
use Rattle.entry_search.specs.declared.search.Searched.{Searched}
use Rattle.verdict.proofs.judge_entry.Goals as goal

pub cell_edges-requires : goal.cell_edges-requires
cell_edges-requires c =
    let certificate = c.args.tables.now.certificate.now in
    rw c.cell_of.ensures.0 (((reads certificate).entry _ c.requires.0).cell)

pub returns-in_err-check_standing-clause-told : goal.returns-in_err-check_standing-clause-told
returns-in_err-check_standing-clause-told c =
    left_after _ _ _ c.from_residual.ensures.1 _ (not_standing _ _ _ _ (rw c.entries.ensures at c.in_err-check_standing.ensures))

pub returns-in_err-check_standing-clause-most : goal.returns-in_err-check_standing-clause-most
returns-in_err-check_standing-clause-most c =
    let told = rw c.entries.ensures at c.in_err-check_standing.ensures in
    rw (left_after (λ (r : Searched). r.count) _ _ c.from_residual.ensures.1 _ told) (omega (arith, standing_count c.args.tables.now.certificate.now.bytes.now c.args.e c.args.count _ refl, c.requires.1))

pub returns-clause-told : goal.returns-clause-told
returns-clause-told c =
    let told = rw (c.of-entry.ensures.0, c.of-entry.ensures.1) at c.search_boxes.ensures.0 in
    searched _ _ _ _ (rw c.entries.ensures at c.in_ok-check_standing.ensures) told
