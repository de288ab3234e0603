-- Which entries may turn arrivals away, and how many: the number that an acceptance has beside its count.
use Rattle.std.specs.Prelude.{ℕ, Bool, List, eqb}
use Rattle.certificate.specs.Loops.{pick, sum_to, any_to}
use Rattle.certificate.specs.Layout.{links_of, boxes_of, entries_of, cell_of}
use Rattle.network.specs.Network.{entry_limit}
use Rattle.grid.specs.Successors.{image_over}
use Rattle.judging.specs.Verdict.{verdict_of}

-- some link's next queue from entry e's cell, not cut at cap, exceeds cap under its signal and arrival box b
unfoldable pub box_overflows : List ℕ → ℕ → ℕ → Bool
box_overflows s e b = any_to (links_of s) (image_over s (entry_limit s e) b (cell_of s e))

-- entry e has such a link in some arrival box
unfoldable pub entry_overflows : List ℕ → ℕ → Bool
entry_overflows s e = any_to (boxes_of s) (box_overflows s e)

-- how many of the entries before e have
unfoldable pub overflows_before : List ℕ → ℕ → ℕ
overflows_before s e = sum_to e (λ k. pick (entry_overflows s k) 1 0)

-- the number that an acceptance gains; with a refusal it is 0
unfoldable pub overflows_of : List ℕ → ℕ
overflows_of s = pick (eqb (verdict_of s).number 0) (overflows_before s (entries_of s)) 0
