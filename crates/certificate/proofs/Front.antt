-- Two byte strings that agree before the first entry of s, the entry count left aside: what stands there is the same. Assumes nothing.
use Prim.Native.Nat.{ℕ, zero, suc, ◌+◌, ◌≤◌, ◌<◌}
use mathlib.Core.List.{List}
use mathlib.Core.Path.{◌≡◌, ap}
use native.Mathlib.Omega.{arith}
use Rattle.certificate.specs.Octets.{byte_at, u16_at}
use Rattle.certificate.specs.Layout.{links_of, turns_of, signals_of, modes_of, boxes_of, remembers, takes_turns, link_size, link_at, cap_of, turns_start, signals_start, green_byte_of, modes_start, mode_size, mode_records_of, grid_start, grid_at, intervals_of, cut_of, arrivals_start, entries_start}
use Rattle.certificate.specs.Facts.{Readable}
use Rattle.certificate.proofs.KindSizes.{link_least}
use Rattle.certificate.proofs.Offsets.{starts, link_end, signal_end, grid_end}

-- bytes 7 and 8 of the header are the entry count
pub record AgreeBefore (s t : List ℕ) : Type 0 where
  pub same : (o : ℕ) → o < entries_start s → (o ≡ 7 → ⊥) → (o ≡ 8 → ⊥) → byte_at s o ≡ byte_at t o

module _ {s t : List ℕ} (R : Readable s) (A : AgreeBefore s t) where
  -- one byte, two bytes, behind the header
  pub byte_same : {o p : ℕ} → o ≡ p → 9 ≤ o → o < entries_start s → byte_at s o ≡ byte_at t p
  byte_same e least lt = rw (← e) (A.same _ lt (λ q. omega arith) (λ q. omega arith))

  pub u16_same : {o p : ℕ} → o ≡ p → 9 ≤ o → o + 1 < entries_start s → u16_at s o ≡ u16_at t p
  u16_same {o} {p} e least lt =
      let a : byte_at s o ≡ byte_at t p = byte_same e least (omega arith) in
      let b : byte_at s (o + 1) ≡ byte_at t (p + 1) = byte_same (omega arith) (omega arith) lt in
      cc

  header_byte : (o : ℕ) → o < 7 → byte_at s o ≡ byte_at t o
  header_byte o lt = A.same o (omega (arith, starts s)) (λ q. omega arith) (λ q. omega arith)

  -- the counts of the header, and the kind
  pub links_same : links_of s ≡ links_of t
  links_same = header_byte 2 (omega arith)

  pub turns_same : turns_of s ≡ turns_of t
  turns_same = header_byte 3 (omega arith)

  pub signals_same : signals_of s ≡ signals_of t
  signals_same = header_byte 4 (omega arith)

  pub modes_same : modes_of s ≡ modes_of t
  modes_same = header_byte 5 (omega arith)

  pub boxes_same : boxes_of s ≡ boxes_of t
  boxes_same = header_byte 6 (omega arith)

  pub remembers_same : remembers s ≡ remembers t
  unfolding remembers
  remembers_same = rw (header_byte 1 (omega arith))

  pub turning_same : takes_turns s ≡ takes_turns t
  unfolding takes_turns
  turning_same = rw (header_byte 1 (omega arith))

  -- sizes that depend on the kind, and where records stand
  size_same : link_size s ≡ link_size t
  unfolding link_size
  size_same = rw remembers_same

  link_place : (l : ℕ) → link_at s l ≡ link_at t l
  link_place l = rw size_same

  pub cap_same : (l : ℕ) → l < links_of s → cap_of s l ≡ cap_of t l
  cap_same l lt =
      u16_same (ap (λ (o : ℕ). o + 4) (link_place l)) (omega arith) (omega (arith, starts s, link_end s l lt, link_least s))

  pub signals_start_lem : signals_start s ≡ signals_start t
  unfolding turns_start signals_start
  signals_start_lem = cc (size_same, links_same, turns_same)

  pub green_same : (g : ℕ) → g < signals_of s → green_byte_of s g ≡ green_byte_of t g
  green_same g lt = byte_same (omega (arith, signals_start_lem)) (omega (arith, starts s)) (omega (arith, starts s, signal_end s g lt))

  grid_start_lem : grid_start s ≡ grid_start t
  unfolding grid_start modes_start mode_size mode_records_of
  grid_start_lem = cc (signals_start_lem, signals_same, turning_same, links_same, remembers_same, modes_same)

  grid_least : (l : ℕ) → grid_start s ≤ grid_at s l
  unfolding grid_at
  grid_least zero = omega arith
  grid_least (suc l) = omega (arith, grid_least l)

  -- a grid record has its count in its third byte, and its size is 3 at least
  count_same : (l : ℕ) → l < links_of s → grid_at s l ≡ grid_at t l → intervals_of s l ≡ intervals_of t l
  count_same l lt e =
      byte_same (omega arith) (omega (arith, starts s, grid_least l)) (omega (arith, starts s, grid_end s l lt, (R.grid l lt).count_least))

  pub grid_place_lem : (l : ℕ) → l ≤ links_of s → grid_at s l ≡ grid_at t l
  unfolding grid_at
  grid_place_lem zero le = grid_start_lem
  grid_place_lem (suc l) le = let e = grid_place_lem l (omega arith) in omega (arith, count_same l le e)

  pub intervals_same : (l : ℕ) → l < links_of s → intervals_of s l ≡ intervals_of t l
  intervals_same l lt = count_same l lt (grid_place_lem l (omega arith))

  pub cut_same : (l i : ℕ) → l < links_of s → i + 1 < intervals_of s l → cut_of s l i ≡ cut_of t l i
  cut_same l i lt h =
      u16_same (omega (arith, grid_place_lem l (omega arith))) (omega (arith, starts s, grid_least l)) (omega (arith, starts s, grid_end s l lt))

  pub entries_start_lem : entries_start s ≡ entries_start t
  unfolding entries_start arrivals_start
  entries_start_lem = cc (grid_place_lem (links_of s) (omega arith), links_same, boxes_same)
