-- The record of a link as reading tests it, and its start flow. Assumes nothing.
use Prim.Native.Nat.{ℕ, ◌+◌, ◌≤◌, ◌<◌}
use mathlib.Core.Bool.{Bool, true, false}
use mathlib.Core.List.{List}
use mathlib.Core.Path.{◌≡◌, refl, sym, ◌∙◌}
use native.Mathlib.Omega.{arith}
use lib.ListN.{length}
use Rattle.certificate.specs.Octets.{u16_at}
use Rattle.certificate.specs.Checks.{fine, opened}
use Rattle.certificate.specs.Layout.{max_link_size, remembers, link_size, link_at, flow_of, start_flow_of}
use Rattle.certificate.proofs.KindSizes.{link_least}
use Rattle.octets.proofs.Cases.{opened-whole}

-- in H2 the record of a link is the longest
pub link_long : (s : List ℕ) {memory : Bool} → memory ≡ remembers s → memory ≡ true → max_link_size ≡ link_size s
unfolding link_size
link_long s is some = rw (sym is ∙ some)

module _ (s : List ℕ) (l : ℕ) {o : ℕ} (here : o ≡ link_at s l) where
  -- a record whose opening passes is there whole
  pub link_whole : {size : ℕ} → size ≡ link_size s → (mark : Bool) → fine ≡ opened s o mark size → link_at s l + link_size s ≤ length s
  link_whole {size} sized mark opening =
      let least = link_least s in
      let inside = opened-whole s o mark size (omega arith) opening refl in
      omega arith

  -- in H2 its last field is the start flow
  module _ {memory : Bool} (is : memory ≡ remembers s) (some : memory ≡ true) where
    pub start_inside : link_at s l + link_size s ≤ length s → o + 12 + 1 < length s
    start_inside whole = let long = link_long s is some in omega arith

    pub start_held : {v : ℕ} → v ≡ u16_at s (o + 12) → v ≡ start_flow_of s l
    unfolding start_flow_of
    start_held p = p ∙ rw (sym is ∙ some, here)

-- in HD that is the flow
pub start_flow : (s : List ℕ) (l : ℕ) {memory : Bool} {v : ℕ} → memory ≡ remembers s → memory ≡ false → v ≡ flow_of s l → v ≡ start_flow_of s l
unfolding start_flow_of
start_flow s l is none p = p ∙ rw (sym is ∙ none)
