-- The stages at which the verdict of a certificate that reads may fall, each in plain terms; their numbers and counts. Assumes nothing.
use Prim.Native.Nat.{ℕ, ◌*◌, ◌≤◌, ◌<◌}
use mathlib.Core.List.{List}
use mathlib.Core.Bool.{cond}
use mathlib.Core.Path.{◌≡◌, refl, sym, ap, ◌∙◌}
use mathlib.Core.Logic.{◌⊎◌, inl, inr, ⊎_elim}
use native.Mathlib.Omega.{arith}
use lib.Dec.{eqb}
use Rattle.certificate.specs.declared.Report.{Report}
use Rattle.certificate.specs.Checks.{report_with}
use Rattle.certificate.specs.Layout.{cells_of, boxes_of, entries_of}
use Rattle.certificate.specs.Laws.{ReadingNumber}
use Rattle.certificate.proofs.Numbers.{reading_apart}
use Rattle.network.specs.Laws.{Screened}
use Rattle.judging.specs.Conditions.{SafeCell, RankFits, ListedNext, LowerNext, EntryHolds, looked_entries}
use Rattle.judging.specs.Laws.{PullTooHigh, RoomTooSmall, Reaches, ReachesCell}
use Rattle.judging.proofs.Counting.{entries_fit, cells_fit}

pub data Stage : Type 0 where
  accepts pull-high room_small cell-unsafe rank-unfit not_listed not_lower : Stage

-- its number in a result
abbrev pub stage_number : Stage → ℕ
stage_number accepts = 0
stage_number pull-high = 10
stage_number room_small = 11
stage_number cell-unsafe = 12
stage_number rank-unfit = 13
stage_number not_listed = 14
stage_number not_lower = 15

-- the verdict falls at this stage with places a and b and count n
abbrev pub Falls : List ℕ → Stage → ℕ → ℕ → ℕ → Type 0
Falls s accepts a b n = Screened s × ((e : ℕ) → e < entries_of s → EntryHolds s e) × (a ≡ 0) × (b ≡ 0) × (n ≡ looked_entries s (entries_of s))
Falls s pull-high a b n = PullTooHigh s a b × (n ≡ 0)
Falls s room_small a b n = RoomTooSmall s a × (b ≡ 0) × (n ≡ 0)
Falls s cell-unsafe a b n = Reaches s a × (SafeCell s a → ⊥) × (b ≡ 0) × (n ≡ looked_entries s a)
Falls s rank-unfit a b n = Reaches s a × SafeCell s a × (RankFits s a → ⊥) × (b ≡ 0) × (n ≡ looked_entries s a)
Falls s not_listed a b n = ReachesCell s a b n × (ListedNext s a b → ⊥)
Falls s not_lower a b n = ReachesCell s a b n × ListedNext s a b × (LowerNext s a b → ⊥)

pub record Fallen (s : List ℕ) : Type 0 where
  pub stage : Stage
  pub a : ℕ
  pub b : ℕ
  pub count : ℕ
  pub falls : Falls s stage a b count

-- the result of a stage that holds
abbrev pub result_of : (s : List ℕ) → Fallen s → Report
result_of s f = report_with (stage_number f.stage) f.a f.b f.count

-- the stage with a number
stage_at : ℕ → Stage
stage_at n =
    cond (eqb n 0) accepts
    (cond (eqb n 10) pull-high
    (cond (eqb n 11) room_small
    (cond (eqb n 12) cell-unsafe
    (cond (eqb n 13) rank-unfit
    (cond (eqb n 14) not_listed not_lower)))))

at_number : (k : Stage) → stage_at (stage_number k) ≡ k
unfolding stage_at
at_number accepts = refl
at_number pull-high = refl
at_number room_small = refl
at_number cell-unsafe = refl
at_number rank-unfit = refl
at_number not_listed = refl
at_number not_lower = refl

pub same_stage : (j k : Stage) → stage_number j ≡ stage_number k → j ≡ k
same_stage j k e = sym (at_number j) ∙ ap stage_at e ∙ at_number k

-- the number of a stage: 0, or 10 to 15
pub stage_range : (k : Stage) → (stage_number k ≡ 0) ⊎ ((10 ≤ stage_number k) × (stage_number k ≤ 15))
stage_range accepts = inl refl
stage_range pull-high = inr (omega arith)
stage_range room_small = inr (omega arith)
stage_range cell-unsafe = inr (omega arith)
stage_range rank-unfit = inr (omega arith)
stage_range not_listed = inr (omega arith)
stage_range not_lower = inr (omega arith)

-- so a refusal of reading is that of no stage
pub stage_apart : (k : Stage) (n : ℕ) → ReadingNumber n → (n ≡ 0 → ⊥) → n ≡ stage_number k → ⊥
stage_apart k n number bad e =
    ⊎_elim (λ z. bad (e ∙ z)) (λ (range : (10 ≤ stage_number k) × (stage_number k ≤ 15)). omega (arith, reading_apart n number)) (stage_range k)

cell_most : (s : List ℕ) (e d n : ℕ) → ReachesCell s e d n → n ≤ entries_of s * boxes_of s * cells_of s
cell_most s e d n c = rw c.count (cells_fit s e c.box d c.reaches.entry c.box_exists c.cell)

-- the count of a stage is at most entries × boxes × cells
pub count_most : (s : List ℕ) (k : Stage) (a b n : ℕ) → Falls s k a b n → n ≤ entries_of s * boxes_of s * cells_of s
count_most s accepts a b n f = rw f.4 (entries_fit s (entries_of s) (omega arith))
count_most s pull-high a b n f = rw f.1 (omega arith)
count_most s room_small a b n f = rw f.2 (omega arith)
count_most s cell-unsafe a b n f = rw f.3 (entries_fit s a (omega (arith, f.0.entry)))
count_most s rank-unfit a b n f = rw f.4 (entries_fit s a (omega (arith, f.0.entry)))
count_most s not_listed a b n f = cell_most s a b n f.0
count_most s not_lower a b n f = cell_most s a b n f.0
