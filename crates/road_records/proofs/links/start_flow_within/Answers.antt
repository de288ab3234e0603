-- `road_records::links::start_flow_within` meets its contract.
use native.Mathlib.Omega.{arith}
use borrow.Author.Rules.{rules}
use Rattle.road_records.proofs.LinkRecords.{link_long, start_inside, start_held, start_flow}
use Rattle.road_records.proofs.links.start_flow_within.Goals as goal

pub place_for-o-requires : goal.place_for-o-requires
place_for-o-requires c = (search rules, search link_long, omega arith)

pub u16_within-requires : goal.u16_within-requires
u16_within-requires c = (search rules, search start_inside)

pub returns-then-has_memory_within : goal.returns-then-has_memory_within
returns-then-has_memory_within c = (search start_held, search rules)

pub returns-else-has_memory_within : goal.returns-else-has_memory_within
returns-else-has_memory_within c = (search start_flow, search rules)
