-- Whether an entry may turn arrivals away, from the images of its boxes. Assumes nothing.
use Prim.Native.Nat.{ℕ}
use mathlib.Core.Bool.{Bool, false}
use mathlib.Core.List.{List}
use mathlib.Core.Path.{◌≡◌, ◌∙◌}
use lib.ListN.{get_or}
use Rattle.certificate.specs.Loops.{any_to}
use Rattle.certificate.proofs.Loops.{any_same}
use Rattle.certificate.specs.Layout.{links_of, boxes_of}
use Rattle.images.specs.declared.ends.Ends.{Ends}
use Rattle.judging.specs.Overflow.{box_overflows, entry_overflows}
use Rattle.entry_search.specs.Search.{EntryImage}

-- under one box: some link of the image
pub box_over : (s : List ℕ) (e b : ℕ) (image : Ends) (over : List Bool) {r : Bool} → EntryImage s e b image over
    → r ≡ any_to (links_of s) (λ l. get_or over l false) → r ≡ box_overflows s e b
unfolding box_overflows
box_over s e b image over I h = h ∙ any_same (links_of s) _ _ I.over_is

-- after the last box
pub all_boxes : (s : List ℕ) (e n : ℕ) {r : Bool} → n ≡ boxes_of s → r ≡ any_to n (box_overflows s e) → r ≡ entry_overflows s e
unfolding entry_overflows
all_boxes s e n w h = h ∙ rw w
