-- `listing::render::render_refused` meets its contract.
use Rattle.std.proofs.Common.{length, refl, ap, rules, ◌∙◌}
use Rattle.listing.proofs.Sending.{refuses, has_room, sends}
use Rattle.listing.proofs.render.render_refused.Goals as goal

pub returns-in_err-require-clause-sent : goal.returns-in_err-require-clause-sent
returns-in_err-require-clause-sent c =
    refuses _ _ c.from_residual.ensures.1 (rw (c.line_length-size.ensures, c.refused_line-line.ensures.0) at c.in_err-require.ensures)

pub put_line-requires : goal.put_line-requires
put_line-requires c =
    rw c.refused_line-line.ensures.0 (has_room (rw (c.line_length-size.ensures, c.refused_line-line.ensures.0) at c.in_ok-require.ensures))

pub returns-clause-sent : goal.returns-clause-sent
returns-clause-sent c =
    let size = c.line_length-size.ensures ∙ ap length c.refused_line-line.ensures.0 in
    rw size (sends (rw size at c.in_ok-require.ensures) refl refl (rw c.refused_line-line.ensures.0 at c.put_line.ensures) (search rules))
