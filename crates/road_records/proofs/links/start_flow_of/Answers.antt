-- `road_records::links::start_flow_of` meets its contract.
use borrow.Author.Rules.{rules}
use Rattle.road_records.proofs.LinkRecords.{start_held, start_flow}
use Rattle.road_records.proofs.links.start_flow_of.Goals as goal

pub returns-then-has_memory : goal.returns-then-has_memory
returns-then-has_memory c = (search start_held, search rules)

pub returns-else-has_memory : goal.returns-else-has_memory
returns-else-has_memory c = (search start_flow, search rules)
