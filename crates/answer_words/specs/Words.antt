-- How an answer crosses to C: as one number of 64 bits, so that no slice is written for it. And how a query's queues cross: as bytes.
use Rattle.std.specs.Prelude.{ℕ, ◌+◌, ◌*◌, ◌/◌, ◌%◌, ◌<◌, Bool, cond, List, [], ◌≡◌, length, leb, eqb}
use Rattle.certificate.specs.declared.Report.{Report}
use Rattle.certificate.specs.Octets.{◌also◌}
use Rattle.certificate.specs.Layout.{max_links}
use Rattle.octets.specs.Tables.{table_of}
use Rattle.held_state.specs.declared.Display.{Display}
use Rattle.packed_state.specs.State.{quad_at}

-- of a query or a poll: eight bits each for the number, A, the count, the signal and the green byte, from the lowest
unfoldable pub display_word : Display → ℕ
display_word d =
    d.report.number + 256 * d.report.a + 65536 * d.report.count + 16777216 * d.signal + 4294967296 * d.green

-- of a load: eight bits for the number, 16 for A, twelve for B, 28 for the count. An acceptance has no places; where A stands, it has the number
-- of entries that may turn arrivals away, which is 0 in a refusal
unfoldable pub verdict_word : Report → ℕ → ℕ
verdict_word r overflows = r.number + 256 * (r.a + overflows) + 16777216 * r.b + 68719476736 * r.count

-- the parts of a query's or a poll's number, by division
pub record DisplayParts (w : ℕ) (d : Display) : Type 0 where
  pub number : w % 256 ≡ d.report.number
  pub place : w / 256 % 256 ≡ d.report.a
  pub count : w / 65536 % 256 ≡ d.report.count
  pub signal : w / 16777216 % 256 ≡ d.signal
  pub green : w / 4294967296 ≡ d.green
  -- there is no place B
  pub alone : d.report.b ≡ 0

-- the parts of a load's
pub record VerdictParts (w : ℕ) (r : Report) (overflows : ℕ) : Type 0 where
  pub number : w % 256 ≡ r.number
  pub place_a : (r.number ≡ 0 → ⊥) → w / 256 % 65536 ≡ r.a
  pub overflow : r.number ≡ 0 → w / 256 % 65536 ≡ overflows
  pub place_b : w / 16777216 % 4096 ≡ r.b
  pub count : w / 68719476736 ≡ r.count

-- what is displayed fits a query's or a poll's number, which has no place B
pub record DisplayFits (d : Display) : Type 0 where
  pub number : d.report.number < 256
  pub place : d.report.a < 256
  pub alone : d.report.b ≡ 0
  pub count : d.report.count < 256
  pub signal : d.signal < 256
  pub green : d.green < 256

-- a report and a number of entries that fit a load's number
pub record LoadFits (r : Report) (overflows : ℕ) : Type 0 where
  pub number : r.number < 256
  pub place_a : r.a + overflows < 65536
  pub place_b : r.b < 4096
  pub count : r.count < 268435456
  -- an acceptance has no place A, a refusal no number of entries
  pub accepted : r.number ≡ 0 → r.a ≡ 0
  pub refused : (r.number ≡ 0 → ⊥) → overflows ≡ 0

-- the bytes of a queue
abbrev pub queue_size : ℕ
queue_size = 4

-- a whole number of queues, and no more than a certificate has links
unfoldable pub has_queues : List ℕ → Bool
has_queues b = eqb (length b % queue_size) 0 also leb (length b) (queue_size * max_links)

-- the queues that bytes are, each four bytes, high byte first; any other bytes are no queues, so their number is not that of the links (16)
unfoldable pub queues_in : List ℕ → List ℕ
queues_in b = cond (has_queues b) (table_of (length b / queue_size) (λ l. quad_at b (queue_size * l))) []
