-- The sizes that depend on the kind of a certificate are bounded. Assumes nothing.
use Prim.Native.Nat.{ℕ, ◌+◌, ◌*◌, suc, ◌≤◌, ◌<◌}
use mathlib.Core.Bool.{Bool, true, false}
use mathlib.Core.List.{List}
use native.Mathlib.Nat.{mul-le-mul, mul-le-mul_left}
use native.Mathlib.Omega.{arith}
use Rattle.certificate.specs.Loops.{pick}
use Rattle.certificate.specs.Layout.{max_links, plain_link_size, max_link_size, plain_mode_size, goal_mode_size, links_of, modes_of, remembers, takes_turns, link_size, mode_records_of, mode_size}

-- one of two numbers lies between them
picked : (b : Bool) (m n : ℕ) → n ≤ m → (n ≤ pick b m n) × (pick b m n ≤ m)
picked true m n h = (h, omega arith)
picked false m n h = (omega arith, h)

module _ (s : List ℕ) where
  pub link_least : plain_link_size ≤ link_size s
  unfolding link_size
  link_least = (picked (remembers s) max_link_size plain_link_size (omega arith)).0

  pub link_most : link_size s ≤ max_link_size
  unfolding link_size
  link_most = (picked (remembers s) max_link_size plain_link_size (omega arith)).1

  pub records_most : mode_records_of s ≤ modes_of s
  unfolding mode_records_of
  records_most = (picked (remembers s) (modes_of s) 0 (omega arith)).1

  pub mode_least : plain_mode_size ≤ mode_size s
  unfolding mode_size
  mode_least = (picked (takes_turns s) (goal_mode_size (links_of s)) plain_mode_size (omega arith)).0

  mode_most : links_of s ≤ max_links → mode_size s ≤ goal_mode_size max_links
  unfolding mode_size
  mode_most h = let most = (picked (takes_turns s) (goal_mode_size (links_of s)) plain_mode_size (omega arith)).1 in omega arith

  -- the links before l take at most 14 bytes each
  pub links_most : (l n : ℕ) → l ≤ n → link_size s * l ≤ max_link_size * n
  links_most l n h = mul-le-mul link_most h

  pub link_step : (l n : ℕ) → l < n → link_size s * l + link_size s ≤ link_size s * n
  link_step l n h = let m : link_size s * suc l ≤ link_size s * n = mul-le-mul_left (link_size s) h in omega arith

  -- the modes before m take at most 20 bytes each
  pub all_modes_most : links_of s ≤ max_links → (m n : ℕ) → m ≤ n → mode_size s * m ≤ goal_mode_size max_links * n
  all_modes_most few m n h = mul-le-mul (mode_most few) h

  pub mode_step : (m n : ℕ) → m < n → mode_size s * m + mode_size s ≤ mode_size s * n
  mode_step m n h = let k : mode_size s * suc m ≤ mode_size s * n = mul-le-mul_left (mode_size s) h in omega arith
