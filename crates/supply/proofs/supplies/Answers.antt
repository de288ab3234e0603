use Rattle.std.proofs.Common.{arith}
use Rattle.reading.proofs.Whole.{turns_most}
use Rattle.supply.proofs.OneTurnMore.{no_supplies, supplies_more}
use Rattle.supply.proofs.supplies.Goals as goal

pub loop-t-init : goal.loop-t-init
loop-t-init c = (no_supplies _ _ _ _ (omega arith), no_supplies _ _ _ _ (omega arith))

pub loop-t-preserved : goal.loop-t-preserved
loop-t-preserved c =
    let inv = c.loop-t.invariant in
    let rooms = c.rooms_of-rooms.ensures in (
      supplies_more _ _ _ _ _ _ _ _ inv.0 (omega arith) (omega (arith, turns_most c.args.certificate.now)) rooms.0 c.with-lower.ensures,
      supplies_more _ _ _ _ _ _ _ _ inv.1 (omega arith) (omega (arith, turns_most c.args.certificate.now)) rooms.1 c.with-upper.ensures,
    )
