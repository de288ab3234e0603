-- The paper layout of documents 01 and 02 as one list: every field of a certificate, in order. A law says that a readable certificate is just that.
use Rattle.std.specs.Prelude.{ℕ, zero, suc, ◌+◌, ◌*◌, ◌-◌, cond, List, [], ◌∷◌, ◌++◌, ◌≡◌}
use Rattle.certificate.specs.Octets.{byte_at}
use Rattle.certificate.specs.Layout.{kind_byte_of, remembers, takes_turns, links_of, turns_of, signals_of, modes_of, boxes_of, entries_of, tail_of, head_of, cap_of, flow_of, safe_of, goal_of, start_flow_of, from_of, to_of, share_of, pull_of, green_byte_of, shown_before, goal_number_of, goal_for, intervals_of, cut_of, low_of, high_of, cell_of, mode_of, signal_of, next_mode_of, rank_of}
use Rattle.certificate.specs.Due.{Kind, HD, LK, TN, SG, MD, GR, AR, EN, ZZ, many_of}

-- a field of one byte or of two (u16, high byte first), with its value
pub data Field : Type 0 where
  byte u16 : ℕ → Field

-- the fields stand one after another from offset o on, and end before offset e
abbrev pub Stand : List ℕ → ℕ → List Field → ℕ → Type 0
Stand s o [] e = o ≡ e
Stand s o (byte v ∷ fields) e = (byte_at s o ≡ v) × Stand s (o + 1) fields e
Stand s o (u16 v ∷ fields) e = (byte_at s o * 256 + byte_at s (o + 1) ≡ v) × Stand s (o + 2) fields e

-- those of 0, 1 .. n - 1, one after another
abbrev pub each : ℕ → (ℕ → List Field) → List Field
each zero f = []
each (suc n) f = each n f ++ f n

-- in H2 and H3 an LK ends with the start flow
abbrev pub start_field : List ℕ → ℕ → List Field
start_field s l = cond (remembers s) (u16 (start_flow_of s l) ∷ []) []

-- in H3 an MD ends with the goal number and the goals
abbrev pub goal_fields : List ℕ → ℕ → List Field
goal_fields s m = cond (takes_turns s) (byte (goal_number_of s m) ∷ each (links_of s) (λ l. u16 (goal_for s m l) ∷ [])) []

-- the fields of record i of a kind, the mark first
abbrev pub fields_of : List ℕ → Kind → ℕ → List Field
fields_of s HD i =
    byte 72 ∷ byte (kind_byte_of s) ∷ byte (links_of s) ∷ byte (turns_of s) ∷ byte (signals_of s) ∷ byte (modes_of s) ∷ byte (boxes_of s) ∷ u16 (entries_of s) ∷ []
fields_of s LK i =
    byte 76 ∷ byte 75 ∷ byte (tail_of s i) ∷ byte (head_of s i) ∷ u16 (cap_of s i) ∷ u16 (flow_of s i) ∷ u16 (safe_of s i) ∷ u16 (goal_of s i) ∷ start_field s i
fields_of s TN i = byte 84 ∷ byte 78 ∷ byte (from_of s i) ∷ byte (to_of s i) ∷ byte (share_of s i) ∷ u16 (pull_of s i) ∷ []
fields_of s SG i = byte 83 ∷ byte 71 ∷ byte (green_byte_of s i) ∷ []
fields_of s MD i = byte 77 ∷ byte 68 ∷ byte (shown_before s i) ∷ goal_fields s i
fields_of s GR i = byte 71 ∷ byte 82 ∷ byte (intervals_of s i) ∷ each (intervals_of s i - 1) (λ c. u16 (cut_of s i c) ∷ [])
fields_of s AR i = byte 65 ∷ byte 82 ∷ each (links_of s) (λ l. u16 (low_of s i l) ∷ u16 (high_of s i l) ∷ [])
fields_of s EN i =
    byte 69 ∷ byte 78 ∷ u16 (cell_of s i) ∷ byte (mode_of s i) ∷ byte (signal_of s i) ∷ byte (next_mode_of s i) ∷ u16 (rank_of s i) ∷ []
fields_of s ZZ i = byte 90 ∷ byte 90 ∷ []

-- all records of a kind, and the whole
abbrev pub records_of : List ℕ → Kind → List Field
records_of s k = each (many_of s k) (fields_of s k)

abbrev pub certificate_fields : List ℕ → List Field
certificate_fields s =
    records_of s HD ++ records_of s LK ++ records_of s TN ++ records_of s SG ++ records_of s MD ++ records_of s GR ++ records_of s AR ++ records_of s EN
    ++ records_of s ZZ
