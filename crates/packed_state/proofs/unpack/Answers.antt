-- `packed_state::unpack` meets its contract: the array's copy, the length and the mode.
use Rattle.std.proofs.Common.{refl}
use Rattle.certificate.specs.Layout.{max_length}
use Rattle.packed_state.proofs.Octets.{eight_is}
use Rattle.packed_state.proofs.Packing.{made}
use Rattle.packed_state.proofs.unpack.Goals as goal

pub returns : goal.returns
returns c =
    let s = c.args.state.now in
    let first = rw c.unwrap.ensures at c.split_first_chunk.ensures.cases in
    let next = rw c.unwrap-len.ensures at c.first_chunk.ensures.cases in
    made s _ _ _ c.requires first.0 (eight_is s _ _ max_length _ first.1 next.same c.from_be_bytes.ensures) refl
