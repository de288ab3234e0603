-- `listing::render::render_accepted` meets its contract.
use Rattle.std.proofs.Common.{refl, rules}
use Rattle.listing.proofs.Sending.{refuses, has_room, sends}
use Rattle.listing.proofs.render.render_accepted.Goals as goal

pub returns-in_err-require-clause-sent : goal.returns-in_err-require-clause-sent
returns-in_err-require-clause-sent c = refuses _ _ c.from_residual.ensures.1 (rw c.text_length-size.ensures.0 at c.in_err-require.ensures)

pub put_text-requires : goal.put_text-requires
put_text-requires c = has_room (rw c.text_length-size.ensures.0 at c.in_ok-require.ensures)

pub returns-clause-sent : goal.returns-clause-sent
returns-clause-sent c =
    rw c.text_length-size.ensures.0 (sends (rw c.text_length-size.ensures.0 at c.in_ok-require.ensures) refl refl c.put_text.ensures (search rules))
