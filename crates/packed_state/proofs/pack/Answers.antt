-- `packed_state::pack` meets its contract.
use Rattle.std.proofs.Common.{◌≡◌, length, arith, rules, ◌∙◌}
use Rattle.std.proofs.lemmas.List.{length-take}
use Rattle.certificate.specs.Layout.{max_length}
use Rattle.packed_state.proofs.Packing.{packed}
use Rattle.packed_state.proofs.pack.Goals as goal

pub slice_bounds-copy_from_slice-end-2 : goal.slice_bounds-copy_from_slice-end-2
slice_bounds-copy_from_slice-end-2 c = omega (arith, length-take max_length c.args.state.now, c.requires)

pub copy_from_slice-requires : goal.copy_from_slice-requires
copy_from_slice-requires c =
    let size : length c.args.c.now.bytes ≡ max_length = search rules in
    omega (arith, length-take max_length c.args.state.now, c.requires)

pub returns : goal.returns
returns c = packed c.args.c.now c.args.state.now _ _ (search rules) c.requires c.copy_from_slice.ensures.after (c.copy_from_slice-2.ensures.after ∙ c.to_be_bytes.ensures)
