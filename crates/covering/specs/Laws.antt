-- What is proved of covering and of comparisons (proofs/ of this crate). Statements only.
use Rattle.std.specs.Prelude.{ℕ, ◌+◌, ◌≤◌, ◌<◌, List, ◌∷◌, ◌++◌, true, ◌↔◌, ◌≡◌, take}
use Rattle.certificate.specs.Octets.{byte_at}
use Rattle.certificate.specs.Layout.{max_length, kind_byte_of, links_of, turns_of, signals_of, modes_of, boxes_of, rank_of}
use Rattle.certificate.specs.Due.{LK, TN, SG, MD, GR, AR}
use Rattle.certificate.specs.Fields.{Field, byte, records_of}
use Rattle.certificate.specs.Facts.{Readable}
use Rattle.judging.specs.Verdict.{verdict_of}
use Rattle.judging.specs.Conditions.{Lists}
use Rattle.runs.specs.Fractions.{Fraction}
use Rattle.runs.specs.Runs.{Step, start, InForce, ProperQueues, ProperSteps}
use Rattle.covering.specs.declared.Comparison.TheVariants.{Equal, First, Second, Neither, Refused}
use Rattle.covering.specs.Covering.{SameFront, Covers, covers}
use Rattle.covering.specs.Comparing.{comparison_of, report_of, better_number, compared_report}

-- Covering is an order, on any bytes.
abbrev pub CoversReflexive : Type 0
CoversReflexive = (s : List ℕ) → Covers s s

abbrev pub CoversTransitive : Type 0
CoversTransitive = (s t u : List ℕ) → Covers s t → Covers t u → Covers s u

-- the test decides it, where pairs stand once in s
abbrev pub CoversIsPlain : Type 0
CoversIsPlain = (s t : List ℕ) → Readable s → (covers s t ≡ true) ↔ Covers s t

-- What it is that agrees: every field before the first EN, and the entry count alone is left aside.

-- these fields, in their order
abbrev pub front_fields : List ℕ → List Field
front_fields s =
    byte (kind_byte_of s) ∷ byte (links_of s) ∷ byte (turns_of s) ∷ byte (signals_of s) ∷ byte (modes_of s) ∷ byte (boxes_of s)
    ∷ (records_of s LK ++ records_of s TN ++ records_of s SG ++ records_of s MD ++ records_of s GR ++ records_of s AR)

-- every element is a byte
abbrev pub AreBytes : List ℕ → Type 0
AreBytes s = (o : ℕ) → byte_at s o < 256

abbrev pub FrontIsPlain : Type 0
FrontIsPlain =
    (s t : List ℕ) → Readable s → Readable t → AreBytes s → AreBytes t → SameFront s t ↔ (front_fields s ≡ front_fields t)

-- equal certificates list the same pairs, with equal ranks; their signals and next modes may differ
pub record SameTable (s t : List ℕ) : Type 0 where
  pub there : (d m e : ℕ) → Lists s d m e → (f : ℕ) × Lists t d m f
  pub back : (d m f : ℕ) → Lists t d m f → (e : ℕ) × Lists s d m e
  pub ranks : (d m e f : ℕ) → Lists s d m e → Lists t d m f → rank_of s e ≡ rank_of t f

abbrev pub EqualMeans : Type 0
EqualMeans = (s t : List ℕ) → Readable s → Readable t → Covers s t → Covers t s → SameTable s t

-- What a better certificate is worth on the road: wherever a run may begin under t with entry f in force, it may begin under s, in the same mode and by
-- the same steps, with an entry in force whose rank is no higher. So by the run claim (runs `RunTheorem`) the first goal of s is due no later than that
-- of t. Later ones are not compared: s may list more pairs, with any ranks.
pub record BeginsToo (s t : List ℕ) (mode : ℕ) (queues : List Fraction) (steps : List Step) (f : ℕ) : Type 0 where
  pub proper_queues : ProperQueues s queues
  pub proper_steps : ProperSteps s steps
  pub entry : ℕ
  pub in_force : InForce s (start s queues mode) entry
  pub rank : rank_of s entry ≤ rank_of t f

abbrev pub CoversBegins : Type 0
CoversBegins =
    (s t : List ℕ) → Readable s → Readable t → Covers s t
    → (mode : ℕ) (queues : List Fraction) (steps : List Step) (f : ℕ)
    → ProperQueues t queues → ProperSteps t steps → InForce t (start t queues mode) f
    → BeginsToo s t mode queues steps f

-- What each answer says of two certificates.
abbrev pub Accepted : List ℕ → Type 0
Accepted s = (verdict_of s).number ≡ 0

pub record Compared (s t : List ℕ) : Type 0 where
  -- both accepted
  pub equal : Accepted s → Accepted t → (comparison_of s t ≡ Equal) ↔ (Covers s t × Covers t s)
  pub first : Accepted s → Accepted t → (comparison_of s t ≡ First) ↔ (Covers s t × (Covers t s → ⊥))
  pub second : Accepted s → Accepted t → (comparison_of s t ≡ Second) ↔ ((Covers s t → ⊥) × Covers t s)
  pub neither : Accepted s → Accepted t → (comparison_of s t ≡ Neither) ↔ ((Covers s t → ⊥) × (Covers t s → ⊥))
  -- the first that is not accepted
  pub first_refused : (Accepted s → ⊥) → comparison_of s t ≡ Refused (verdict_of s)
  pub second_refused : Accepted s → (Accepted t → ⊥) → comparison_of s t ≡ Refused (verdict_of t)
  -- number, places and count
  pub report : report_of (comparison_of s t) ≡ compared_report s t

abbrev pub ComparisonIs : Type 0
ComparisonIs = (s t : List ℕ) → Compared s t

-- the same of the number that tells which is better
pub record ComparedNumber (s t : List ℕ) : Type 0 where
  pub equal : Accepted s → Accepted t → (better_number (comparison_of s t) ≡ 1) ↔ (Covers s t × Covers t s)
  pub first : Accepted s → Accepted t → (better_number (comparison_of s t) ≡ 2) ↔ (Covers s t × (Covers t s → ⊥))
  pub second : Accepted s → Accepted t → (better_number (comparison_of s t) ≡ 3) ↔ ((Covers s t → ⊥) × Covers t s)
  pub neither : Accepted s → Accepted t → (better_number (comparison_of s t) ≡ 4) ↔ ((Covers s t → ⊥) × (Covers t s → ⊥))
  pub refused : (Accepted s × Accepted t → ⊥) → better_number (comparison_of s t) ≡ 0

abbrev pub NumberIs : Type 0
NumberIs = (s t : List ℕ) → ComparedNumber s t

-- the answer for two byte strings is that for the first (greatest length + 1) bytes of each
abbrev pub ComparisonOfLong : Type 0
ComparisonOfLong = (s t : List ℕ) → comparison_of s t ≡ comparison_of (take (max_length + 1) s) (take (max_length + 1) t)
