-- `lister::listed` meets its contract: the text has room, so the whole listing is sent.
use Rattle.std.proofs.Common.{arith}
use Rattle.listing_text.specs.Laws.{ListedWhole}
use Rattle.listing_text.proofs.Listings.{listing_fits, listing_sent}
use Rattle.lister.proofs.listed.Goals as goal

pub returns-clause-place : goal.returns-clause-place
returns-clause-place c =
    let sent : ListedWhole c.args.bytes.now c.list-report.new.buffer c.list-report.result = listing_sent _ _ _ _ c.requires c.list-report.ensures in
    omega (arith, sent.place, listing_fits c.args.bytes.now)

pub returns-clause-whole : goal.returns-clause-whole
returns-clause-whole c = (listing_sent _ _ _ _ c.requires c.list-report.ensures).text
