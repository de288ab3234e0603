-- The intervals of a link. They hold their lower edge and not their upper one, except the last, which holds cap.
use Rattle.std.specs.Prelude.{ℕ, ◌+◌, ◌*◌, ◌-◌, ◌≤◌, ◌<◌, List, Bool, ltb}
use Rattle.certificate.specs.Loops.{pick, find}
use Rattle.certificate.specs.Layout.{cap_of, intervals_of, cut_of}
use Rattle.certificate.specs.Records.{cut_before}

-- interval i of link l is not its last one
abbrev pub is_inner : List ℕ → ℕ → ℕ → Bool
is_inner s l i = ltb (i + 1) (intervals_of s l)

-- the lower edge of interval i of link l: the cut before it, 0 for the first
abbrev pub lower_edge : List ℕ → ℕ → ℕ → ℕ
lower_edge s l i = cut_before s l i

-- its upper edge: the cut after it, cap for the last
unfoldable pub upper_edge : List ℕ → ℕ → ℕ → ℕ
upper_edge s l i = pick (is_inner s l i) (cut_of s l i) (cap_of s l)

-- interval i of link l holds the queue x over scale D
pub record InInterval (s : List ℕ) (l i D x : ℕ) : Type 0 where
  pub exists : i < intervals_of s l
  pub lower : D * lower_edge s l i ≤ x
  pub upper : i + 1 < intervals_of s l → x < D * upper_edge s l i
  pub cap : x ≤ D * cap_of s l

-- the interval of link l that holds x, for x at most cap: the first whose upper edge is above x, else the last
unfoldable pub interval_at : List ℕ → ℕ → ℕ → ℕ → ℕ
interval_at s l D x = find (intervals_of s l - 1) (λ i. ltb x (D * cut_of s l i))
