-- Where a run may begin under the covered certificate, it may begin under the other, with a rank no higher. Assumes nothing.
use Prim.Native.Nat.{ℕ, ◌+◌, ◌*◌, ◌≤◌, ◌<◌}
use mathlib.Core.List.{List}
use mathlib.Core.Path.{◌≡◌, sym, ap, ◌∙◌}
use native.Mathlib.Omega.{arith}
use lib.ListN.{get_or}
use Rattle.certificate.specs.Layout.{links_of, boxes_of, arrivals_start, arrival_at, low_of, high_of, cell_of}
use Rattle.certificate.specs.Facts.{Readable}
use Rattle.certificate.proofs.Offsets.{starts, box_end}
use Rattle.certificate.proofs.Front.{AgreeBefore, u16_same, links_same, boxes_same, cap_same, grid_place_lem}
use Rattle.grid.specs.Cells.{InCell, cell_at}
use Rattle.grid.proofs.Intervals.{one_cell}
use Rattle.grid.proofs.Alike.{cell_alike}
use Rattle.runs.specs.Fractions.{Fraction, scale_of, over_scale}
use Rattle.runs.specs.Runs.{Step, no_step, ProperQueues, ProperStep}
use Rattle.runs.proofs.Fractions.{scale_positive}
use Rattle.covering.specs.Laws.{CoversBegins}

module _ {s t : List ℕ} (R : Readable s) (A : AgreeBefore s t) where
  -- the arrival boxes are the same
  box_place : (b : ℕ) → arrival_at s b ≡ arrival_at t b
  unfolding arrivals_start
  box_place b = cc (grid_place_lem R A (links_of s) (omega arith), links_same R A)

  low_same : (b l : ℕ) → b < boxes_of s → l < links_of s → low_of s b l ≡ low_of t b l
  low_same b l h lt =
      u16_same R A (ap (λ (o : ℕ). o + (2 + 4 * l)) (box_place b)) (omega (arith, starts s)) (omega (arith, box_end s b h))

  high_same : (b l : ℕ) → b < boxes_of s → l < links_of s → high_of s b l ≡ high_of t b l
  high_same b l h lt =
      u16_same R A (ap (λ (o : ℕ). o + (4 + 4 * l)) (box_place b)) (omega (arith, starts s)) (omega (arith, box_end s b h))

  queues_too : (queues : List Fraction) → ProperQueues t queues → ProperQueues s queues
  queues_too queues P = record { count = P.count ∙ sym (links_same R A); scales = λ l lt. P.scales l (rw (← links_same R A) lt) }

  step_too : (p : Step) → ProperStep t p → ProperStep s p
  step_too p P =
      let n = links_same R A in
      let b : p.box < boxes_of s = omega (arith, P.box, boxes_same R A) in
      record {
        box = b;
        count = P.count ∙ sym n;
        scales = λ l lt. P.scales l (omega (arith, n));
        low = λ l lt. rw (low_same p.box l b lt) (P.low l (omega (arith, n)));
        high = λ l lt. rw (high_same p.box l b lt) (P.high l (omega (arith, n)));
      }

  -- the queues' cell is the same
  cell_too : Readable t → (c D : ℕ) (x : ℕ → ℕ) → 1 ≤ D → InCell t c D x → InCell s c D x
  unfolding cell_at
  cell_too Q c D x d C =
      let is : c ≡ cell_at t D x = (one_cell t Q D x d (λ l lt. (C.holds l lt).cap)).1 c C in
      let same : cell_at s D x ≡ cell_at t D x = cell_alike R A (λ _. D) x in
      rw (is, ← same) (one_cell s R D x d (λ l lt. rw (cap_same R A l lt) (C.holds l (omega (arith, links_same R A))).cap)).0

pub covers_begins : CoversBegins
covers_begins s t R Q K mode queues steps f P S F =
    let A : AgreeBefore s t = record { same = K.front.bytes } in
    let (e, listed, low) = K.pairs f F.exists in
    let d : 1 ≤ scale_of queues = scale_positive queues (λ l lt. P.scales l (omega (arith, P.count))) in
    record {
      proper_queues = queues_too R A queues P;
      proper_steps = λ k lt. step_too R A (get_or steps k no_step) (S k lt);
      entry = e;
      in_force = record {
        exists = listed.exists;
        cell = rw listed.cell (cell_too R A Q (cell_of t f) (scale_of queues) (over_scale queues) d F.cell);
        mode = listed.mode ∙ F.mode;
      };
      rank = low;
    }
