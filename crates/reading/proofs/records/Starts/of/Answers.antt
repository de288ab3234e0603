-- `reading::records::Starts::of` meets its contract.
use Rattle.std.proofs.Common.{arith, ◌∙◌}
use Rattle.reading.proofs.Stages.{turns_begin, signals_begin, modes_begin, grids_begin, starts_are, header_facts}
use Rattle.reading.proofs.records.Starts.of.Goals as goal

pub invariant_of-first_turn : goal.invariant_of-first_turn
invariant_of-first_turn c = record { placed = turns_begin _ c.links_of.ensures.0 c.link_at-turns.ensures.0; low = omega (arith, c.link_at-turns.ensures) }

pub invariant_of-first_signal : goal.invariant_of-first_signal
invariant_of-first_signal c =
    record { placed = signals_begin _ c.turns_of.ensures.0 c.record_at-signals.ensures.0; low = omega (arith, c.record_at-signals.ensures) }

pub of-first_mode-requires : goal.of-first_mode-requires
of-first_mode-requires c =
    (omega (arith, c.record_at-modes.ensures), modes_begin _ c.signals_of.ensures.0 c.record_at-modes.ensures.0)

pub invariant_of-result : goal.invariant_of-result
invariant_of-result c =
    let H = header_facts _ c.requires in
    record {
      header = c.requires;
      placed =
          starts_are _ H _ _ _ _ (turns_begin _ c.links_of.ensures.0 c.link_at-turns.ensures.0) c.link_at-turns.ensures.1
          (signals_begin _ c.turns_of.ensures.0 c.record_at-signals.ensures.0)
          (modes_begin _ c.signals_of.ensures.0 c.record_at-modes.ensures.0)
          (grids_begin _ (c.records.ensures.0 ∙ rw c.of-first_mode.ensures.0) (c.record_at-grids.ensures.0 ∙ rw c.of-first_mode.ensures.0));
    }
