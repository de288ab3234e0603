-- The limits of the format are the documents' numbers. Assumes nothing.
use mathlib.Core.Path.{refl}
use Rattle.certificate.specs.Laws.{LimitsAre}

pub limits_are : LimitsAre
limits_are =
    record {
      links = refl;
      turns = refl;
      signals = refl;
      modes = refl;
      boxes = refl;
      entries = refl;
      cap = refl;
      share = refl;
      pull = refl;
      pulls = refl;
      arrival = refl;
      intervals = refl;
      cells = refl;
      goal_number = refl;
      scale = refl;
      length = refl;
    }
