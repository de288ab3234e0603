-- `conformance::calls::list` prints no more than the buffer has: a text that is sent fits, and a refusal has no length.
use Rattle.std.proofs.Common.{ℕ, List, length, ◌≤◌, ◌≡◌, ap, sym, arith}
use Rattle.std.proofs.lemmas.Bool.Decides.{nat_tests}
use Rattle.std.proofs.lemmas.List.{length-take-le}
use Rattle.certificate.specs.declared.Report.{Report}
use Rattle.certificate.specs.Checks.{need}
use Rattle.listing_text.specs.Listing.{listing_of, send_report}
use Rattle.conformance.proofs.calls.list.Goals as goal

place_fits : (text buffer : List ℕ) → (send_report text buffer).a ≤ length buffer
unfolding send_report need
place_fits text buffer = grind (arith, nat_tests)

pub slice_bounds-write_all-end : goal.slice_bounds-write_all-end
slice_bounds-write_all-end g c =
    let place : c.list-report.result.a ≡ (send_report (listing_of c.args.bytes.now) c.args.text.now).a = ap (λ (r : Report). r.a) c.list-report.ensures.report in
    omega (arith, place, place_fits (listing_of c.args.bytes.now) c.args.text.now)

pub slice_bounds-write_all-end-2 : goal.slice_bounds-write_all-end-2
slice_bounds-write_all-end-2 g c = sym (length-take-le _ _ (slice_bounds-write_all-end g c))
