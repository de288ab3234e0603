-- `listing::render::put_text` meets its contract.
use Rattle.listing_text.specs.Listing.{accepted_text}
use Rattle.text.proofs.Written.{room_first, rest_start, rest_next, rest_last}
use Rattle.listing.proofs.render.put_text.Goals as goal

pub put_line-requires : goal.put_line-requires
unfolding accepted_text
put_line-requires c = rw c.counts_line.ensures.0 (room_first c.args.writer.now _ c.requires)

pub put_entries-requires : goal.put_entries-requires
unfolding accepted_text
put_entries-requires c =
    let Y = c.args.judged.now.certificate.laid in
    let entries = rest_next (rest_start c.args.writer.now _ c.requires) (rw c.counts_line.ensures.0 at c.put_line.ensures) in
    (Y.entries_most, rw (c.entries.ensures, Y.entries_are) (room_first c.put_line.new.writer _ entries.room))

pub put_line-requires-2 : goal.put_line-requires-2
unfolding accepted_text
put_line-requires-2 c =
    let Y = c.args.judged.now.certificate.laid in
    let entries = rest_next (rest_start c.args.writer.now _ c.requires) (rw c.counts_line.ensures.0 at c.put_line.ensures) in
    let last = rest_next entries (rw (c.entries.ensures, Y.entries_are) at c.put_entries.ensures) in
    rw (c.accepted_line.ensures.0, c.from.ensures) last.room

pub returns : goal.returns
unfolding accepted_text
returns c =
    let Y = c.args.judged.now.certificate.laid in
    let entries = rest_next (rest_start c.args.writer.now _ c.requires) (rw c.counts_line.ensures.0 at c.put_line.ensures) in
    let last = rest_next entries (rw (c.entries.ensures, Y.entries_are) at c.put_entries.ensures) in
    rest_last last (rw (c.accepted_line.ensures.0, c.from.ensures) at c.put_line-2.ensures)
