-- A cell is a successor exactly if it holds an exact point of the image, and every step leads to a successor. Assumes nothing.
use Prim.Native.Nat.{ℕ, ◌*◌, ◌≤◌, ◌<◌}
use mathlib.Core.List.{List}
use mathlib.Core.Bool.{true}
use mathlib.Core.Path.{◌≡◌}
use native.Mathlib.Nat.{mul_assoc}
use native.Mathlib.Omega.{arith}
use Rattle.certificate.specs.Layout.{links_of}
use Rattle.certificate.proofs.Loops.{every-each, each-every}
use Rattle.network.specs.Network.{network_of}
use Rattle.network.specs.Flow.{next}
use Rattle.grid.specs.Cells.{interval_in}
use Rattle.grid.specs.Successors.{image_low, image_high, is_successor}
use Rattle.grid.specs.Laws.{PointIn, SuccessorIsPoint, StepsToSuccessor}
use Rattle.grid.proofs.Numbers.{is_choice}
use Rattle.grid.proofs.Edges.{in_closed_cell}
use Rattle.grid.proofs.Images.{image_is_smallest, low_at_most_high}
use Rattle.grid.proofs.Meets.{Meets, meets_plain, plain_meets, point_meets, meeting, meeting_held}

-- a successor, link by link
pub successor_each : (s : List ℕ) (limit : ℕ → ℕ) (b c d : ℕ) → is_successor s limit b c d ≡ true → (l : ℕ) → l < links_of s → Meets s l (interval_in s d l) (image_low s limit b c l) (image_high s limit b c l)
unfolding is_successor
successor_each s limit b c d e l lt = meets_plain _ _ _ _ _ (every-each _ _ e l lt)

pub each_successor : (s : List ℕ) (limit : ℕ → ℕ) (b c d : ℕ) → ((l : ℕ) → l < links_of s → Meets s l (interval_in s d l) (image_low s limit b c l) (image_high s limit b c l)) → is_successor s limit b c d ≡ true
unfolding is_successor
each_successor s limit b c d h = each-every _ _ (λ l lt. plain_meets _ _ _ _ _ (h l lt))

pub point_successor : (s : List ℕ) (limit : ℕ → ℕ) (b c d : ℕ) → PointIn s limit b c d → is_successor s limit b c d ≡ true
point_successor s limit b c d P = each_successor s limit b c d (λ l lt. point_meets s l _ P.scale (P.point l) _ _ P.scale_least (P.cell.holds l lt) (P.low l lt) (P.high l lt))

pub successor_is_point : SuccessorIsPoint
unfolding meeting
successor_is_point s R green limit S b c d hb hd = (has_point, point_successor s limit b c d)
  where
    has_point : is_successor s limit b c d ≡ true → PointIn s limit b c d
    has_point e =
        record {
          scale = 10000;
          point = λ l. meeting s l (interval_in s d l) (image_low s limit b c l);
          scale_least = omega arith;
          cell =
              record {
                exists = hd;
                holds = λ l lt. meeting_held s R l _ _ _ lt (is_choice s R d l lt) (successor_each s limit b c d e l lt);
              };
          low = λ l lt. omega arith;
          high = λ l lt. omega (arith, (successor_each s limit b c d e l lt).lower, low_at_most_high s limit b c l (image_is_smallest s R green limit S b c hb) lt);
        }

pub steps_to_successor : StepsToSuccessor
steps_to_successor s R green limit S b c d D x a hb hD C A N =
    point_successor s limit b c d
    (record {
      scale = 10000 * D;
      point = next (network_of s) limit D x a;
      scale_least = omega arith;
      cell = N;
      low = λ l lt. rw mul_assoc (omega (arith, held l lt));
      high = λ l lt. rw mul_assoc (omega (arith, held l lt));
    })
  where
    held : (l : ℕ) → l < links_of s
        → (D * image_low s limit b c l ≤ next (network_of s) limit D x a l)
        × (next (network_of s) limit D x a l ≤ D * image_high s limit b c l)
    held = (image_is_smallest s R green limit S b c hb).holds D x a (in_closed_cell s c D x C) A
