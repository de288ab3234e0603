-- The records of a certificate stand one after another: each ends where the next begins or before. Assumes nothing.
use Prim.Native.Nat.{ℕ, suc, ◌+◌, ◌*◌, ◌≤◌, ◌<◌}
use mathlib.Core.List.{List}
use native.Mathlib.Nat.{mul-le-mul_left}
use native.Mathlib.Omega.{arith}
use Rattle.certificate.specs.Layout.{header_size, link_size, turn_size, signal_size, mode_size, grid_size, arrival_size, entry_size, links_of, turns_of, signals_of, boxes_of, entries_of, link_at, turns_start, turn_at, signals_start, signal_at, modes_start, mode_records_of, mode_at, grid_start, grid_at, intervals_of, arrivals_start, arrival_at, entries_start, entry_at, end_at}
use Rattle.certificate.proofs.Ascending.{grows}
use Rattle.certificate.proofs.KindSizes.{link_step, mode_step}

module _ (s : List ℕ) where
  -- a later grid record starts no earlier
  grid_grows : (l n : ℕ) → l ≤ n → grid_at s l ≤ grid_at s n
  unfolding grid_at
  grid_grows = grows (grid_at s) (λ l. omega arith)

  -- where each kind of record starts
  pub record Starts : Type 0 where
    pub turns : header_size ≤ turns_start s
    pub signals : turns_start s ≤ signals_start s
    pub modes : signals_start s ≤ modes_start s
    pub grids : modes_start s ≤ grid_start s
    pub arrivals : grid_start s ≤ arrivals_start s
    pub entries : arrivals_start s ≤ entries_start s
    pub «end» : entries_start s ≤ end_at s

  pub starts : Starts
  unfolding turns_start signals_start modes_start grid_start grid_at arrivals_start entries_start end_at
  starts = omega (arith, grid_grows 0 (links_of s) (omega arith))

  pub link_end : (l : ℕ) → l < links_of s → link_at s l + link_size s ≤ turns_start s
  unfolding turns_start
  link_end l lt = omega (arith, link_step s l (links_of s) lt)

  pub turn_end : (t : ℕ) → t < turns_of s → turn_at s t + turn_size ≤ signals_start s
  unfolding signals_start
  turn_end t lt = omega arith

  pub signal_end : (g : ℕ) → g < signals_of s → signal_at s g + signal_size ≤ modes_start s
  unfolding modes_start
  signal_end g lt = omega arith

  pub mode_end : (m : ℕ) → m < mode_records_of s → mode_at s m + mode_size s ≤ grid_start s
  unfolding grid_start
  mode_end m lt = omega (arith, mode_step s m (mode_records_of s) lt)

  pub grid_end : (l : ℕ) → l < links_of s → grid_at s l + grid_size (intervals_of s l) ≤ arrivals_start s
  unfolding arrivals_start grid_at
  grid_end l lt = grid_grows (suc l) (links_of s) lt

  pub box_end : (b : ℕ) → b < boxes_of s → arrival_at s b + arrival_size (links_of s) ≤ entries_start s
  unfolding entries_start
  box_end b lt = let h : arrival_size (links_of s) * suc b ≤ arrival_size (links_of s) * boxes_of s = mul-le-mul_left (arrival_size (links_of s)) lt in omega arith

  pub entry_end : (e : ℕ) → e < entries_of s → entry_at s e + entry_size ≤ end_at s
  unfolding end_at
  entry_end e lt = omega arith
