-- `turn_records::turns::Turns::check` meets its contract.
use Rattle.std.proofs.Common.{◌≡◌}
use Rattle.std.proofs.lemmas.Result.{IfOk-from_err}
use Rattle.certificate.specs.Checks.{fine}
use Rattle.certificate.specs.Records.{turn_fault}
use Rattle.octets.proofs.Outcomes.{left, left_first, then_next}
use Rattle.turn_records.proofs.TurnTotals.{turn_whole, shares_next}
use Rattle.turn_records.proofs.turns.Turns.check.Goals as goal

pub returns-in_err-check_opened : goal.returns-in_err-check_opened
unfolding turn_fault
returns-in_err-check_opened c = (
  rw (← c.record_at-o.ensures.0, ← c.marked_as-marked.ensures) (left_first _ _ c.from_residual.ensures.1 _ _ c.in_err-check_opened.ensures),
  IfOk-from_err _ _ c.from_residual.ensures.0,
)

pub share_total-total-requires : goal.share_total-total-requires
share_total-total-requires c = (c.requires.0, turn_whole _ _ c.record_at-o.ensures.0 _ c.in_ok-check_opened.ensures, c.requires.2)

pub passes-requires : goal.passes-requires
passes-requires c = (c.requires.0, turn_whole _ _ c.record_at-o.ensures.0 _ c.in_ok-check_opened.ensures, c.requires.1, c.share_total-total.ensures)

pub returns-in_err-require : goal.returns-in_err-require
unfolding turn_fault
returns-in_err-require c = (
  rw (← c.record_at-o.ensures.0, ← c.passes.ensures, ← c.marked_as-marked.ensures)
      (left _ _ c.from_residual-in_err-require.ensures.1 _ (then_next _ _ _ c.in_ok-check_opened.ensures c.in_err-require.ensures)),
  IfOk-from_err _ _ c.from_residual-in_err-require.ensures.0,
)

-- both tests pass
passed : (c : goal.In_ok-require) → fine ≡ turn_fault c.args.self.now.bytes.now c.args.t
unfolding turn_fault
passed c = rw (← c.record_at-o.ensures.0, ← c.passes.ensures, ← c.marked_as-marked.ensures) (then_next _ _ _ c.in_ok-check_opened.ensures c.in_ok-require.ensures)

pub returns : goal.returns
returns c = (passed c, shares_next _ c.requires.2 c.share_total-total.ensures (passed c))
