-- The edges of an entry's cell, its limits, and the ends of its image before arrivals. Assumes nothing.
use Prim.Native.Nat.{ℕ, ◌<◌}
use mathlib.Core.List.{List}
use mathlib.Core.Bool.{Bool, true, not}
use mathlib.Core.Path.{◌≡◌, refl, sym, ◌∙◌}
use native.Mathlib.Omega.{arith}
use Rattle.certificate.specs.Facts.{Readable}
use Rattle.certificate.proofs.Loops.{sum_same}
use Rattle.certificate.specs.Layout.{remembers, green_byte_of, shown_before, entries_of, cell_of, mode_of, signal_of}
use Rattle.network.specs.Network.{Network, network_of, entry_limit}
use Rattle.network.specs.Flow.{sent, passed_in, gross}
use Rattle.network.specs.Image.{low_corner, high_corner}
use Rattle.network.specs.Sound.{Joined}
use Rattle.network.specs.Laws.{Screened}
use Rattle.reading.proofs.Whole.{reads}
use Rattle.supply.specs.declared.QueueBox.{QueueBox}
use Rattle.supply.specs.Supply.{WithinCaps, at}
use Rattle.supply.proofs.LeastNumbers.{least_same}
use Rattle.images.specs.declared.ends.Ends.{Ends}
use Rattle.images.specs.Ends.{LimitsFit, EndsBefore}
use Rattle.network.proofs.Limiting.{plain_limits}
use Rattle.network.proofs.Screening.{joins_of, entry_sound, screening_is_plain}
use Rattle.grid.specs.Cells.{interval_in}
use Rattle.grid.proofs.Edges.{upper_most, cell_lower_below_upper}
use Rattle.octets.proofs.Cases.{not_yes}
use Rattle.entry_setup.specs.declared.Tables.{Tables}
use Rattle.entry_setup.specs.Bytes.{bytes_of}
use Rattle.entry_setup.specs.Tables.{CellEdges, limit_by, EntryLimits, EntryEnds}

-- what a link sends, and so the next queue of a link, depends on the limits and the queues of the network's links alone
module _ (N : Network) (J : Joined N) (limit other x y : ℕ → ℕ) (limits : (k : ℕ) → k < N.links → limit k ≡ other k) (queues : (k : ℕ) → k < N.links → x k ≡ y k) where
  sent_same : (j : ℕ) → j < N.links → sent N limit 1 x j ≡ sent N other 1 y j
  unfolding sent
  sent_same j hj =
      rw (limits j hj, queues j hj)
      (least_same N.turns _ _ _ _ _ (λ t lt. refl) (λ t lt p. rw (queues (N.to t) (J.to_link t lt)) refl))

  passed_same : (l : ℕ) → passed_in N limit 1 x l ≡ passed_in N other 1 y l
  unfolding passed_in
  passed_same l = sum_same N.turns _ _ (λ t lt. rw (sent_same (N.from t) (J.from_link t lt)) refl)

  pub gross_same : (l : ℕ) → l < N.links → gross N limit 1 x (λ _. 0) l ≡ gross N other 1 y (λ _. 0) l
  unfolding gross
  gross_same l hl = rw (sent_same l hl, passed_same l, queues l hl) refl

-- corners of boxes that agree on the links
low_same : (s : List ℕ) (l : ℕ) (a b x y : ℕ → ℕ) (k : ℕ) → a k ≡ x k → b k ≡ y k → low_corner (network_of s) l a b k ≡ low_corner (network_of s) l x y k
unfolding low_corner
low_same s l a b x y k p q = rw (p, q)

high_same : (s : List ℕ) (l : ℕ) (a b x y : ℕ → ℕ) (k : ℕ) → a k ≡ x k → b k ≡ y k → high_corner (network_of s) l a b k ≡ high_corner (network_of s) l x y k
unfolding high_corner
high_same s l a b x y k p q = rw (p, q)

-- the bytes by which the code finds them: the entry's own, and that of the signal shown before, for which in HD any does
pub byte_is : (s : List ℕ) (e g byte : ℕ) → g ≡ signal_of s e → byte ≡ green_byte_of s g → byte ≡ green_byte_of s (signal_of s e)
byte_is s e g byte eg eb = rw (← eg) eb

pub own_byte : (s : List ℕ) (e byte : ℕ) (memory : Bool) → memory ≡ remembers s → not memory ≡ true → byte ≡ green_byte_of s (signal_of s e)
    → (l : ℕ) → limit_by s byte byte l ≡ entry_limit s e l
own_byte s e byte memory m none own l =
    let plain = plain_limits s (not_yes memory (remembers s) m none) in
    rw own (plain (signal_of s e) (signal_of s e) l ∙ sym (plain (shown_before s (mode_of s e)) (signal_of s e) l))

-- judging's tables are of a certificate that passes the tests before 12
pub screened : (tables : Tables) → Screened (bytes_of tables)
screened tables = (screening_is_plain (bytes_of tables)).0 tables.screened

module _ (tables : Tables) where
  abbrev s : List ℕ
  s = bytes_of tables

  reads_it : Readable s
  reads_it = reads tables.certificate.now

  -- the limits are small
  pub limits_fit : (e : ℕ) (limits : List ℕ) → e < entries_of s → EntryLimits s e limits → LimitsFit s limits
  limits_fit e limits he L =
      record { most = λ l hl. omega (arith, L l hl, (entry_sound s (screened tables) e he).most l hl, reads_it.link l hl) }

  -- the code's ends are those of the entry's cell
  pub ends_are : (e : ℕ) (limits : List ℕ) (queues : QueueBox) (ends : Ends) → CellEdges s (cell_of s e) queues → EntryLimits s e limits
      → EndsBefore s (at limits) queues ends → EntryEnds s e ends
  ends_are e limits queues ends C L B =
      record {
        low_is = λ l hl. B.low_is l hl ∙ gross_same (network_of s) (joins_of s reads_it) _ _ _ _ L (λ k hk. low_same s l _ _ _ _ k (C.lower_is k hk) (C.upper_is k hk)) l hl;
        high_is = λ l hl. B.high_is l hl ∙ gross_same (network_of s) (joins_of s reads_it) _ _ _ _ L (λ k hk. high_same s l _ _ _ _ k (C.lower_is k hk) (C.upper_is k hk)) l hl;
        low_most = B.low_most;
        high_most = B.high_most;
      }

  -- the edges of a cell are at most cap
  pub edges_within : (c : ℕ) (queues : QueueBox) → CellEdges s c queues → WithinCaps s queues
  edges_within c queues C =
      record {
        lower_fits = λ l hl. omega (arith, C.lower_is l hl, cell_lower_below_upper s reads_it l hl c, upper_most s reads_it l hl (interval_in s c l));
        upper_fits = λ l hl. omega (arith, C.upper_is l hl, upper_most s reads_it l hl (interval_in s c l));
      }
