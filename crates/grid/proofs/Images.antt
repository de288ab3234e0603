-- The image of a cell is the smallest closed box that holds all next queues, and says which of them exceed cap where they are not cut.
-- Assumes nothing.
use Prim.Native.Nat.{ℕ, ◌≤◌, ◌<◌}
use mathlib.Core.List.{List}
use native.Mathlib.Omega.{arith}
use Rattle.certificate.specs.Layout.{links_of, low_of, high_of}
use Rattle.network.specs.Network.{network_of}
use Rattle.network.proofs.SmallestBox.{encloses, ends_met, overflow_is_real}
use Rattle.grid.specs.Cells.{lower_of, upper_of}
use Rattle.grid.specs.Successors.{image_low, image_high, image_over}
use Rattle.grid.specs.Laws.{ImageOf, ImageIsSmallest, AnyBoxHoldsImage}
use Rattle.grid.proofs.Edges.{cell_lower_below_upper}

pub image_is_smallest : ImageIsSmallest
unfolding image_low image_high image_over
image_is_smallest s R green limit S b c hb =
    let ordered : (k : ℕ) → k < links_of s → lower_of s c k ≤ upper_of s c k = λ k lt. omega (arith, cell_lower_below_upper s R k lt c) in
    let ends = ends_met (network_of s) limit (lower_of s c) (upper_of s c) (low_of s b) (high_of s b) ordered (R.box b hb).low_most in
    record {
      holds = encloses (network_of s) green limit S (lower_of s c) (upper_of s c) (low_of s b) (high_of s b);
      low_met = λ l lt. (ends l).0;
      high_met = λ l lt. (ends l).1;
      over = overflow_is_real (network_of s) green limit S (lower_of s c) (upper_of s c) (low_of s b) (high_of s b) ordered (R.box b hb).low_most;
    }

pub any_box_holds_image : AnyBoxHoldsImage
any_box_holds_image s R green limit S b c l hb lt p q v w h =
    let I : ImageOf s limit b c = image_is_smallest s R green limit S b c hb in
    let low = I.low_met l lt in
    let high = I.high_met l lt in (
      rw low.4 at (h 1 low.0 low.1 (omega arith) low.2 low.3).0,
      rw high.4 at (h 1 high.0 high.1 (omega arith) high.2 high.3).1,
    )

-- the low end of an image is not above its high end
pub low_at_most_high : (s : List ℕ) (limit : ℕ → ℕ) (b c l : ℕ) → ImageOf s limit b c → l < links_of s → image_low s limit b c l ≤ image_high s limit b c l
low_at_most_high s limit b c l I lt =
    let met = I.low_met l lt in
    omega (arith, I.holds 1 met.0 met.1 met.2 met.3 l lt)
