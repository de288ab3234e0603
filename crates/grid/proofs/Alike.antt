-- The queues' cell is the same in two certificates that agree before the first entry. Assumes nothing.
use Prim.Native.Nat.{ℕ, zero, suc, ◌≤◌, ◌<◌}
use mathlib.Core.List.{List}
use mathlib.Core.Path.{◌≡◌, refl, ◌∙◌}
use native.Mathlib.Omega.{arith}
use Rattle.certificate.specs.Layout.{links_of}
use Rattle.certificate.specs.Facts.{Readable}
use Rattle.certificate.proofs.Loops.{find_same}
use Rattle.certificate.proofs.Front.{AgreeBefore, links_same, intervals_same, cut_same}
use Rattle.grid.specs.Intervals.{interval_at}
use Rattle.grid.specs.Cells.{number_of}

-- with a scale for each link, so that it serves queries and polls
module _ {s t : List ℕ} (R : Readable s) (A : AgreeBefore s t) (D x : ℕ → ℕ) where
  interval_alike : (l : ℕ) → l < links_of s → interval_at s l (D l) (x l) ≡ interval_at t l (D l) (x l)
  unfolding interval_at
  interval_alike l lt =
      find_same _ _ _ _ (omega (arith, intervals_same R A l lt)) (λ i h. rw (cut_same R A l i lt (omega arith)))

  number_alike : (l : ℕ) → l ≤ links_of s → number_of s (λ k. interval_at s k (D k) (x k)) l ≡ number_of t (λ k. interval_at t k (D k) (x k)) l
  unfolding number_of
  number_alike zero le = refl
  number_alike (suc l) le = rw (number_alike l (omega arith), intervals_same R A l le, interval_alike l le)

  pub cell_alike : number_of s (λ k. interval_at s k (D k) (x k)) (links_of s) ≡ number_of t (λ k. interval_at t k (D k) (x k)) (links_of t)
  cell_alike = number_alike (links_of s) (omega arith) ∙ rw (links_same R A)
