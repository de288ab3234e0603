-- The grid records as reading goes through them: cut by cut, and link by link. Assumes nothing.
use Prim.Native.Nat.{ℕ, ◌+◌}
use mathlib.Core.Bool.{Bool, ◌&&◌}
use mathlib.Core.List.{List}
use mathlib.Core.Path.{◌≡◌, ◌∙◌}
use native.Mathlib.Numerals.{add-one}
use lib.Dec.{ltb}
use Rattle.certificate.specs.declared.Report.{Report}
use Rattle.certificate.specs.Octets.{◌also◌}
use Rattle.certificate.specs.Checks.{refusal, fine, need, marked, opened}
use Rattle.certificate.specs.Layout.{cap_of, cut_at, grid_at}
use Rattle.certificate.specs.Records.{cut_before, cut_ok, cut_fault, count_ok}

-- one cut: `before` is the cut before it
module _ (s : List ℕ) (l i : ℕ) {o cap before cut : ℕ} (here : o ≡ grid_at s l) (room : cap ≡ cap_of s l) (last : before ≡ cut_before s l i) (this : cut ≡ cut_at s o i) where
  ok_is : (ltb before cut && ltb cut cap) ≡ cut_ok s l i
  unfolding cut_ok ◌also◌
  ok_is = rw (room, last, this, here)

  -- what its test tells
  pub cut_told : need (ltb before cut && ltb cut cap) (refusal 7 o) fine ≡ cut_fault s l i
  unfolding cut_fault
  cut_told = rw (ok_is, here)

  pub cut_next : cut ≡ cut_before s l (i + 1)
  unfolding cut_before
  cut_next = rw (add-one, this, here)

-- the opening of the record of link l, and its count, at its place
module _ (s : List ℕ) (l : ℕ) {o : ℕ} (here : o ≡ grid_at s l) where
  pub opened_here : (f : Report) (mark : Bool) → mark ≡ marked s o 71 82 → f ≡ opened s o mark 3 → f ≡ opened s (grid_at s l) (marked s (grid_at s l) 71 82) 3
  opened_here f mark bears e = e ∙ rw (bears, here)

  pub counted_here : (f : Report) (b : Bool) → b ≡ count_ok s l → f ≡ need b (refusal 7 o) fine → f ≡ need (count_ok s l) (refusal 7 (grid_at s l)) fine
  counted_here f b counts e = e ∙ rw (counts, here)
