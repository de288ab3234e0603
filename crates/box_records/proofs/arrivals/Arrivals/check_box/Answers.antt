-- `box_records::arrivals::Arrivals::check_box` meets its contract.
use Rattle.std.proofs.Common.{arith, refl}
use Rattle.certificate.specs.Records.{arrival_fault}
use Rattle.octets.proofs.Cases.{opened-whole}
use Rattle.octets.proofs.Outcomes.{left_first, then_next}
use Rattle.box_records.proofs.arrivals.Arrivals.check_box.Goals as goal

pub returns-in_err-check_opened : goal.returns-in_err-check_opened
unfolding arrival_fault
returns-in_err-check_opened c = rw (← c.record_at-o.ensures.0, ← c.marked_as-mark.ensures, ← c.record_size.ensures.0) (left_first _ _ c.from_residual.ensures.1 _ _ c.in_err-check_opened.ensures)

pub check_ranges-requires : goal.check_ranges-requires
check_ranges-requires c =
    let whole = opened-whole _ _ _ c.record_size.result (omega arith) c.in_ok-check_opened.ensures refl in
    (omega arith, omega (arith, whole, c.args.self.now.counted))

pub returns : goal.returns
unfolding arrival_fault
returns c = rw (← c.record_at-o.ensures.0, ← c.marked_as-mark.ensures, ← c.record_size.ensures.0, ← c.args.self.now.counted) (then_next _ _ _ c.in_ok-check_opened.ensures c.check_ranges.ensures)
