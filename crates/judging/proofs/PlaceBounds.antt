-- The places of a verdict lie within what they name. Assumes nothing.
use Prim.Native.Nat.{ℕ}
use mathlib.Core.List.{List}
use native.Mathlib.Omega.{arith}
use Rattle.certificate.specs.Checks.{report_with}
use Rattle.certificate.proofs.Numbers.{reading_apart, reading_numbers}
use Rattle.certificate.proofs.Places.{place_fits}
use Rattle.judging.specs.Laws.{Places, PlacesFit}
use Rattle.judging.proofs.Stages.{Stage, accepts, pull-high, room_small, cell-unsafe, rank-unfit, not_listed, not_lower, stage_number, Falls}
use Rattle.judging.proofs.Verdicts.{by_stage}

-- the places of each stage
stage_places : (s : List ℕ) (k : Stage) (a b n : ℕ) → Falls s k a b n → Places s (report_with (stage_number k) a b n)
stage_places s accepts a b n f = omega (arith, f.2, f.3)
stage_places s pull-high a b n f = omega (arith, reading_apart, f.0.signal, f.0.link)
stage_places s room_small a b n f = omega (arith, reading_apart, f.0.turn, f.1)
stage_places s cell-unsafe a b n f = omega (arith, reading_apart, f.0.entry, f.2)
stage_places s rank-unfit a b n f = omega (arith, reading_apart, f.0.entry, f.3)
stage_places s not_listed a b n f = omega (arith, reading_apart, f.0.reaches.entry, f.0.cell)
stage_places s not_lower a b n f = omega (arith, reading_apart, f.0.reaches.entry, f.0.cell)

pub places_fit : PlacesFit
places_fit s =
    by_stage s (Places s)
    (λ bad. omega (arith, reading_apart _ (reading_numbers s), place_fits s))
    (λ f. stage_places s f.stage f.a f.b f.count f.falls)
