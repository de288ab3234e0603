-- `verdict::judge_entries` meets its contract.
use Rattle.std.proofs.Common.{arith, refl, ◌∙◌, ◌≡◌, ◌+◌}
use Rattle.certificate.specs.Layout.{entries_of}
use Rattle.entry_setup.specs.Bytes.{bytes_of}
use Rattle.judging.proofs.Overflows.{overflows_before_most}
use Rattle.octets.proofs.Outcomes.{left_after, not_ok}
use Rattle.octets.proofs.Picking.{byte_picks}
use Rattle.verdict.proofs.Chaining.{next_entry, stop_entry, end_entries, one_more, none_before}
use Rattle.verdict.proofs.judge_entries.Goals as goal

pub loop-e-init : goal.loop-e-init
loop-e-init c = (refl, omega arith, none_before _)

pub returns-in_err-searched : goal.returns-in_err-searched
returns-in_err-searched c =
    let laid = c.args.tables.now.certificate.now.laid in
    record {
      told_is = left_after _ _ _ c.from_residual.ensures.1 _ (stop_entry _ c.loop-e.e _ _ _ (omega (arith, laid.entries_are)) c.in_err-searched.ensures.told c.loop-e.invariant.0);
      counted = not_ok _ _ _ c.from_residual.ensures.1;
    }

pub overflow_add-accepted : goal.overflow_add-accepted
overflow_add-accepted c =
    let certificate = c.args.tables.now.certificate.now in
    let more = one_more (bytes_of c.args.tables.now) c.loop-e.e c.loop-e.invariant.2 c.in_ok-searched.ensures.over (c.from.ensures ∙ byte_picks _) in
    omega (arith, more, overflows_before_most (bytes_of c.args.tables.now) (c.loop-e.e + 1), certificate.laid.entries_most)

pub loop-e-preserved : goal.loop-e-preserved
loop-e-preserved c =
    let laid = c.args.tables.now.certificate.now.laid in (
      next_entry _ c.loop-e.e _ _ _ (omega (arith, laid.entries_are)) c.in_ok-searched.ensures.told c.loop-e.invariant.0,
      c.in_ok-searched.ensures.most,
      one_more _ _ c.loop-e.invariant.2 c.in_ok-searched.ensures.over (c.from.ensures ∙ byte_picks _),
    )

pub returns : goal.returns
returns c =
    let laid = c.args.tables.now.certificate.now.laid in
    let all : c.loop-e.e ≡ entries_of (bytes_of c.args.tables.now) = omega (arith, laid.entries_are) in
    record {
      told_is = end_entries _ c.loop-e.e _ _ (omega (arith, laid.entries_are)) c.loop-e.invariant.0;
      counted = rw all at c.loop-e.invariant.2;
    }
