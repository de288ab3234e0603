-- `mode_checks::modes::mode_ok` meets its contract.
use mathlib.Core.Path.{ap}
use mathlib.Core.Bool.{not}
use borrow.Author.Rules.{rules}
use Rattle.octets.proofs.Cases.{by_yes}
use Rattle.mode_checks.proofs.ModeTests.{no_signal, one_goal, with_goals}
use Rattle.mode_checks.proofs.modes.mode_ok.Goals as goal

pub returns-then-shown_before-signals_of : goal.returns-then-shown_before-signals_of
returns-then-shown_before-signals_of c = no_signal _ _ c.shown_before.ensures.0 c.signals_of.ensures.0 c.if-shown_before-signals_of.true

pub returns-then-not-takes_turns : goal.returns-then-not-takes_turns
returns-then-not-takes_turns c =
    one_goal _ _ c.shown_before.ensures.0 c.signals_of.ensures.0 c.if-shown_before-signals_of.false c.takes_turns.ensures (ap not c.if-not-takes_turns.true)

pub goals_ok-requires : goal.goals_ok-requires
goals_ok-requires c = (search rules, by_yes _ _ c.takes_turns.ensures c.if-not-takes_turns.false)

pub returns : goal.returns
returns c =
    with_goals _ _ c.shown_before.ensures.0 c.signals_of.ensures.0 c.if-shown_before-signals_of.false c.takes_turns.ensures (ap not c.if-not-takes_turns.false) c.goals_ok.ensures
