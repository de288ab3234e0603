-- What a certificate that reading passes has: its records are there whole, and its fields are within the limits. Assumes nothing.
use Prim.Native.Nat.{ℕ, ◌+◌, ◌≤◌, ◌<◌}
use mathlib.Core.List.{List}
use native.Mathlib.Omega.{arith}
use lib.ListN.{length}
use Rattle.certificate.specs.Facts.{Readable}
use Rattle.certificate.specs.Layout.{max_links, max_turns, max_cap, max_intervals, link_at, link_size, turn_at, turn_size, links_of, turns_of, cap_of, flow_of, safe_of, start_flow_of, intervals_of}
use Rattle.certificate.proofs.Offsets.{starts, link_end, turn_end}
use Rattle.certificate.proofs.Plain.{readable_of}
use Rattle.reading.specs.declared.Certificate.{Certificate}

module _ (c : Certificate) where
  abbrev s : List ℕ
  s = c.bytes.now

  pub reads : Readable s
  reads = readable_of s c.readable

  pub links_most : links_of s ≤ max_links
  links_most = reads.header.links_most

  pub turns_most : turns_of s ≤ max_turns
  turns_most = reads.header.turns_most

  pub link_whole : (l : ℕ) → l < links_of s → link_at s l + link_size s ≤ length s
  link_whole l h = omega (arith, link_end s l h, starts s, reads.whole)

  pub turn_whole : (t : ℕ) → t < turns_of s → turn_at s t + turn_size ≤ length s
  turn_whole t h = omega (arith, turn_end s t h, starts s, reads.whole)

  pub cap_most : (l : ℕ) → l < links_of s → cap_of s l ≤ max_cap
  cap_most l h = (reads.link l h).cap_most

  pub flow_most : (l : ℕ) → l < links_of s → flow_of s l ≤ max_cap
  flow_most l h = omega (arith, (reads.link l h).flow_most, cap_most l h)

  pub safe_most : (l : ℕ) → l < links_of s → safe_of s l ≤ max_cap
  safe_most l h = omega (arith, (reads.link l h).safe_most, cap_most l h)

  pub start_most : (l : ℕ) → l < links_of s → start_flow_of s l ≤ max_cap
  start_most l h = omega (arith, (reads.link l h).start_most, flow_most l h)

  pub intervals_most : (l : ℕ) → l < links_of s → intervals_of s l ≤ max_intervals
  intervals_most l h = (reads.grid l h).count_most
