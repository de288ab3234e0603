-- The image of a cell under a signal and an arrival box, taken from the closed cell, and the cells that meet it.
-- The signal stands here by its limits: `limit` is the most that each link may send in the step (network `limit_of`, and `entry_limit` of an entry).
use Rattle.std.specs.Prelude.{ℕ, ◌*◌, List, Bool, ◌&&◌, cond, leb, ltb}
use Rattle.certificate.specs.Loops.{every}
use Rattle.certificate.specs.Layout.{links_of, cap_of, low_of, high_of}
use Rattle.network.specs.Network.{network_of}
use Rattle.network.specs.Image.{low_end, high_end, exceeds_cap}
use Rattle.grid.specs.Intervals.{is_inner, lower_edge, upper_edge}
use Rattle.grid.specs.Cells.{interval_in, lower_of, upper_of}

-- the ends of link l's image of cell c under these limits and arrival box b, in ten thousandths of a vehicle
unfoldable pub image_low : List ℕ → (ℕ → ℕ) → ℕ → ℕ → ℕ → ℕ
image_low s limit b c l = low_end (network_of s) limit (lower_of s c) (upper_of s c) (low_of s b) l

unfoldable pub image_high : List ℕ → (ℕ → ℕ) → ℕ → ℕ → ℕ → ℕ
image_high s limit b c l = high_end (network_of s) limit (lower_of s c) (upper_of s c) (high_of s b) l

-- whether link l's next queue, not cut at cap, exceeds cap there
unfoldable pub image_over : List ℕ → (ℕ → ℕ) → ℕ → ℕ → ℕ → Bool
image_over s limit b c l = exceeds_cap (network_of s) limit (lower_of s c) (upper_of s c) (high_of s b) l

-- interval i of link l, edges as above, meets the closed range low .. high of ten thousandths
unfoldable pub meets : List ℕ → ℕ → ℕ → ℕ → ℕ → Bool
meets s l i low high =
    leb (10000 * lower_edge s l i) high
    && cond (is_inner s l i) (ltb low (10000 * upper_edge s l i)) (leb low (10000 * cap_of s l))

-- cell d is a successor of cell c under these limits and arrival box b: its intervals meet the closed image on every link
unfoldable pub is_successor : List ℕ → (ℕ → ℕ) → ℕ → ℕ → ℕ → Bool
is_successor s limit b c d = every (links_of s) (λ l. meets s l (interval_in s d l) (image_low s limit b c l) (image_high s limit b c l))
