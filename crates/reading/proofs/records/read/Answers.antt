-- `reading::records::read` meets its contract.
use Rattle.std.proofs.Common.{◌∙◌, sym, ap, refl}
use Rattle.certificate.specs.declared.Report.{Report}
use Rattle.octets.proofs.Outcomes.{left_first, left, then_next}
use Rattle.reading.proofs.Stages.{refused_as, in_stages, header_facts}
use Rattle.reading.proofs.records.read.Goals as goal

pub returns-in_err-check_header : goal.returns-in_err-check_header
returns-in_err-check_header c =
    refused_as _ _ _ c.from_residual.ensures.0 (left_first _ _ c.from_residual.ensures.1 _ _ c.in_err-check_header.ensures ∙ in_stages _)

pub returns-in_err-check_network : goal.returns-in_err-check_network
returns-in_err-check_network c =
    refused_as _ _ _ c.from_residual-in_err-check_network.ensures.0
    (then_next _ _ _ c.in_ok-check_header.ensures (left_first _ _ c.from_residual-in_err-check_network.ensures.1 _ _ (rw c.of-starts.ensures at c.in_err-check_network.ensures)) ∙ in_stages _)

pub returns-in_err-layout : goal.returns-in_err-layout
returns-in_err-layout c =
    refused_as _ _ _ c.from_residual-in_err-layout.ensures.0
    (then_next _ _ _ c.in_ok-check_header.ensures
    (then_next _ _ _ (rw c.of-starts.ensures at c.in_ok-check_network.ensures)
    (left _ _ c.from_residual-in_err-layout.ensures.1 _ (rw c.of-starts.ensures at c.in_err-layout.ensures.told))) ∙ in_stages _)

pub invariant_of-result : goal.invariant_of-result
invariant_of-result c =
    let told = then_next _ _ _ c.in_ok-check_header.ensures (then_next _ _ _ (rw c.of-starts.ensures at c.in_ok-check_network.ensures) (rw c.of-starts.ensures at c.in_ok-layout.ensures.told)) ∙ in_stages _ in
    record { readable = sym (ap (λ (r : Report). r.number) told); laid = rw (← c.of-starts.ensures) c.in_ok-layout.ensures.laid }

pub returns : goal.returns
returns c =
    record {
      told_is = then_next _ _ _ c.in_ok-check_header.ensures (then_next _ _ _ (rw c.of-starts.ensures at c.in_ok-check_network.ensures) (rw c.of-starts.ensures at c.in_ok-layout.ensures.told)) ∙ in_stages _;
      bytes_are = refl;
    }
