-- `listing::render::text_length` meets its contract.
use Rattle.std.proofs.Common.{length, ap, arith}
use Rattle.certificate.specs.Checks.{report_with}
use Rattle.listing_text.proofs.Listings.{length-accepted}
use Rattle.listing.proofs.render.text_length.Goals as goal

pub returns : goal.returns
returns c =
    let j = c.args.judged.now in
    let s = j.certificate.bytes.now in
    let Y = j.certificate.laid in
    omega (
      arith,
      length-accepted s (report_with 0 0 0 j.accepted.count) j.accepted.overflows,
      ap length c.counts_line.ensures.0,
      rw (c.entries.ensures, Y.entries_are) at c.entries_length.ensures.0,
      ap length (rw c.from.ensures at c.accepted_line.ensures.0),
      Y.entries_most,
    )
