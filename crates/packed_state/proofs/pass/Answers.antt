-- `packed_state::pass` meets its contract.
use Rattle.std.proofs.Common.{rules}
use Rattle.packed_state.proofs.Packing.{passed}
use Rattle.packed_state.proofs.pass.Goals as goal

pub returns : goal.returns
returns c = passed c.args.state.now c.args.mode c.requires (search rules)
