-- `roadside::roadside_load` meets its contract: the load's answer fits its number.
use Rattle.roadside.proofs.Words.{load_fits}
use Rattle.roadside.proofs.roadside_load.Goals as goal

pub verdict_word-requires : goal.verdict_word-requires
verdict_word-requires c = rw (c.load.ensures.report, c.load.ensures.overflows) (load_fits c.args.state.now c.args.bytes.now)
