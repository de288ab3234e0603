-- `listing::put_listing` meets its contract.
use Rattle.listing.proofs.Sending.{listing_accepted, listing_refused}
use Rattle.listing.proofs.put_listing.Goals as goal

pub returns-in-Ok-clause-sent : goal.returns-in-Ok-clause-sent
returns-in-Ok-clause-sent c =
    let judged = c.in-Ok.ensures in
    rw (listing_accepted _ c.in-Ok.judged judged.told judged.overflows judged.bytes) at c.render_accepted.ensures.sent

pub returns-in-Err-clause-sent : goal.returns-in-Err-clause-sent
returns-in-Err-clause-sent c = rw (c.into.ensures, listing_refused _ c.in-Err.refused c.in-Err.ensures.told) at c.render_refused.ensures.sent
