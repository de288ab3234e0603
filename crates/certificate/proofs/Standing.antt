-- A readable certificate is the fields of the layout, one after another. Assumes nothing.
use Prim.Native.Nat.{ℕ, zero, suc, ◌+◌, ◌*◌, ◌-◌, ◌<◌}
use mathlib.Core.Bool.{Bool, true, false, cond}
use mathlib.Core.List.{List, [], ◌∷◌, ◌++◌}
use mathlib.Core.Path.{◌≡◌, refl, ap, ◌∙◌}
use mathlib.Core.Logic.{inl, inr}
use native.Mathlib.Nat.{mul-suc}
use native.Mathlib.Omega.{arith}
use lib.ListN.{length}
use Rattle.certificate.specs.Octets.{byte_at, u16_at}
use Rattle.certificate.specs.Loops.{pick}
use Rattle.certificate.specs.Layout.{header_size, plain_mode_size, goal_mode_size, links_of, turns_of, signals_of, boxes_of, entries_of, remembers, takes_turns, link_size, link_at, start_flow_of, turns_start, turn_at, signals_start, signal_at, mode_records_of, modes_start, mode_size, mode_at, shown_before, goal_number_of, goal_for, grid_start, grid_at, intervals_of, cut_of, arrivals_start, arrival_at, low_of, high_of, entries_start, entry_at, end_at}
use Rattle.certificate.specs.Facts.{HeaderMark, Readable}
use Rattle.certificate.specs.Due.{LK, TN, SG, MD, GR, AR, EN}
use Rattle.certificate.specs.Fields.{Field, byte, u16, Stand, each, start_field, goal_fields, fields_of, records_of}
use Rattle.certificate.specs.Laws.{FieldsStand}
use Rattle.certificate.proofs.KindOrder.{kind_at}

module _ (s : List ℕ) where
  -- what stands at a place, written in another way
  byte_at_lem : {o p : ℕ} → o ≡ p → byte_at s o ≡ byte_at s p
  byte_at_lem e = ap (byte_at s) e

  u16_at_lem : {o p : ℕ} → o ≡ p → u16_at s o ≡ u16_at s p
  u16_at_lem e = ap (u16_at s) e

  -- fields after fields
  joined : (fields more : List Field) (o m e : ℕ) → Stand s o fields m → Stand s m more e → Stand s o (fields ++ more) e
  joined [] more o m e h k = rw h k
  joined (byte v ∷ fields) more o m e h k = (h.0, joined fields more (o + 1) m e h.1 k)
  joined (u16 v ∷ fields) more o m e h k = (h.0, joined fields more (o + 2) m e h.1 k)

  in_turn : (f : ℕ → List Field) (at : ℕ → ℕ) (n : ℕ) → ((i : ℕ) → i < n → Stand s (at i) (f i) (at (suc i))) → Stand s (at 0) (each n f) (at n)
  in_turn f at zero h = refl
  in_turn f at (suc n) h = joined (each n f) (f n) (at 0) (at n) (at (suc n)) (in_turn f at n (λ i lt. h i (omega arith))) (h n (omega arith))

  moved : (fields : List Field) {o p e f : ℕ} → o ≡ p → e ≡ f → Stand s p fields f → Stand s o fields e
  moved fields p q h = rw (p, q) h

  -- an LK ends with its start flow or before it
  start_stands : (l : ℕ) → Stand s (link_at s l + 12) (start_field s l) (link_at s (suc l))
  unfolding link_size start_flow_of
  start_stands l = go (remembers s) refl
    where
      go : (b : Bool) → remembers s ≡ b → Stand s (link_at s l + 12) (start_field s l) (link_at s (suc l))
      go true e = rw e (refl, omega arith)
      go false e = rw e (omega arith)

  -- the memory of a mode that has a record
  shown_stands : (m : ℕ) → m < mode_records_of s → byte_at s (mode_at s m + 2) ≡ shown_before s m
  unfolding mode_records_of shown_before
  shown_stands m lt = go (remembers s) refl
    where
      go : (b : Bool) → remembers s ≡ b → byte_at s (mode_at s m + 2) ≡ shown_before s m
      go true e = rw e
      go false e = absurd (let none : mode_records_of s ≡ 0 = rw e in omega arith)

  -- an MD ends with its goals or before them
  number_at : (m : ℕ) → takes_turns s ≡ true → byte_at s (mode_at s m + 3) ≡ goal_number_of s m
  unfolding goal_number_of
  number_at m e = rw e

  goal_at : (m l : ℕ) → takes_turns s ≡ true → u16_at s (mode_at s m + (4 + 2 * l)) ≡ goal_for s m l
  unfolding goal_for
  goal_at m l e = rw e

  size_by : (b : Bool) → takes_turns s ≡ b → mode_size s ≡ pick b (goal_mode_size (links_of s)) plain_mode_size
  unfolding mode_size
  size_by b e = rw e

  goals_stand : (m : ℕ) → Stand s (mode_at s m + 3) (goal_fields s m) (mode_at s (suc m))
  goals_stand m = go (takes_turns s) refl
    where
      goal : ℕ → List Field
      goal l = u16 (goal_for s m l) ∷ []

      at : ℕ → ℕ
      at l = mode_at s m + 4 + 2 * l

      go : (b : Bool) → takes_turns s ≡ b → Stand s (mode_at s m + 3) (cond b (byte (goal_number_of s m) ∷ each (links_of s) goal) []) (mode_at s (suc m))
      go true e = (
        number_at m e,
        moved (each (links_of s) goal) (omega arith) (rw mul-suc (omega (arith, size_by true e))) (in_turn goal at (links_of s) (λ l h. (u16_at_lem (omega arith) ∙ goal_at m l e, omega arith))),
      )
      go false e = rw mul-suc (omega (arith, size_by false e))

  module _ (R : Readable s) where
    -- each record, from its start to where the next one starts
    link_stands : (l : ℕ) → l < links_of s → Stand s (link_at s l) (fields_of s LK l) (link_at s (suc l))
    link_stands l lt =
        let m = (R.link l lt).mark in
        (m.first, (m.second, (byte_at_lem (omega arith), (byte_at_lem (omega arith), (u16_at_lem (omega arith), (u16_at_lem (omega arith), (u16_at_lem (omega arith), (u16_at_lem (omega arith), moved (start_field s l) (omega arith) refl (start_stands l)))))))))

    turn_stands : (t : ℕ) → t < turns_of s → Stand s (turn_at s t) (fields_of s TN t) (turn_at s (suc t))
    turn_stands t lt =
        let m = (R.turn t lt).mark in
        (m.first, (m.second, (byte_at_lem (omega arith), (byte_at_lem (omega arith), (byte_at_lem (omega arith), (u16_at_lem (omega arith), omega arith))))))

    signal_stands : (g : ℕ) → g < signals_of s → Stand s (signal_at s g) (fields_of s SG g) (signal_at s (suc g))
    signal_stands g lt = let m = (R.signal g lt).mark in (m.first, (m.second, (byte_at_lem (omega arith), omega arith)))

    mode_stands : (m : ℕ) → m < mode_records_of s → Stand s (mode_at s m) (fields_of s MD m) (mode_at s (suc m))
    mode_stands m lt = let k = (R.mode m lt).mark in (k.first, (k.second, (byte_at_lem (omega arith) ∙ shown_stands m lt, moved (goal_fields s m) (omega arith) refl (goals_stand m))))

    grid_stands : (l : ℕ) → l < links_of s → Stand s (grid_at s l) (fields_of s GR l) (grid_at s (suc l))
    unfolding grid_at
    grid_stands l lt =
        let m = (R.grid l lt).mark in
        (m.first, (m.second, (byte_at_lem (omega arith), moved (each (intervals_of s l - 1) cut) (omega arith) (omega (arith, (R.grid l lt).count_least)) (in_turn cut at (intervals_of s l - 1) (λ i h. (u16_at_lem (omega arith), omega arith))))))
      where
        cut : ℕ → List Field
        cut i = u16 (cut_of s l i) ∷ []

        at : ℕ → ℕ
        at i = grid_at s l + 3 + 2 * i

    box_stands : (b : ℕ) → b < boxes_of s → Stand s (arrival_at s b) (fields_of s AR b) (arrival_at s (suc b))
    box_stands b lt =
        let m = (R.box b lt).mark in
        (m.first, (m.second, moved (each (links_of s) ends) (omega arith) (rw mul-suc (omega arith)) (in_turn ends at (links_of s) (λ l h. (u16_at_lem (omega arith), (u16_at_lem (omega arith), omega arith))))))
      where
        ends : ℕ → List Field
        ends l = u16 (low_of s b l) ∷ u16 (high_of s b l) ∷ []

        at : ℕ → ℕ
        at l = arrival_at s b + 2 + 4 * l

    entry_stands : (e : ℕ) → e < entries_of s → Stand s (entry_at s e) (fields_of s EN e) (entry_at s (suc e))
    entry_stands e lt =
        let m = (R.entry e lt).mark in
        (m.first, (m.second, (u16_at_lem (omega arith), (byte_at_lem (omega arith), (byte_at_lem (omega arith), (byte_at_lem (omega arith), (u16_at_lem (omega arith), omega arith)))))))

-- where each kind starts, and the end
start_of : List ℕ → ℕ → ℕ
start_of s zero = 0
start_of s (suc zero) = header_size
start_of s (suc (suc zero)) = turns_start s
start_of s (suc (suc (suc zero))) = signals_start s
start_of s (suc (suc (suc (suc zero)))) = modes_start s
start_of s (suc (suc (suc (suc (suc zero))))) = grid_start s
start_of s (suc (suc (suc (suc (suc (suc zero)))))) = arrivals_start s
start_of s (suc (suc (suc (suc (suc (suc (suc zero))))))) = entries_start s
start_of s (suc (suc (suc (suc (suc (suc (suc (suc zero)))))))) = end_at s
start_of s (suc (suc (suc (suc (suc (suc (suc (suc (suc n))))))))) = length s

-- every mark of the first record begins with H
header_first : (s : List ℕ) → HeaderMark s → byte_at s 0 ≡ 72
header_first s (inl m) = m.first
header_first s (inr (inl m)) = m.first
header_first s (inr (inr m)) = m.first

kind_stands : (s : List ℕ) → Readable s → (n : ℕ) → n < 9 → Stand s (start_of s n) (records_of s (kind_at n)) (start_of s (suc n))
unfolding start_of kind_at turns_start signals_start modes_start grid_start grid_at arrivals_start entries_start end_at
kind_stands s R zero lt = (header_first s R.header.mark, (refl, (refl, (refl, (refl, (refl, (refl, (refl, refl))))))))
kind_stands s R (suc zero) lt = moved s (records_of s LK) (omega arith) refl (in_turn s (fields_of s LK) (link_at s) (links_of s) (link_stands s R))
kind_stands s R (suc (suc zero)) lt = moved s (records_of s TN) (omega arith) refl (in_turn s (fields_of s TN) (turn_at s) (turns_of s) (turn_stands s R))
kind_stands s R (suc (suc (suc zero))) lt = moved s (records_of s SG) (omega arith) refl (in_turn s (fields_of s SG) (signal_at s) (signals_of s) (signal_stands s R))
kind_stands s R (suc (suc (suc (suc zero)))) lt = moved s (records_of s MD) (omega arith) refl (in_turn s (fields_of s MD) (mode_at s) (mode_records_of s) (mode_stands s R))
kind_stands s R (suc (suc (suc (suc (suc zero))))) lt = in_turn s (fields_of s GR) (grid_at s) (links_of s) (grid_stands s R)
kind_stands s R (suc (suc (suc (suc (suc (suc zero)))))) lt = moved s (records_of s AR) (omega arith) refl (in_turn s (fields_of s AR) (arrival_at s) (boxes_of s) (box_stands s R))
kind_stands s R (suc (suc (suc (suc (suc (suc (suc zero))))))) lt = moved s (records_of s EN) (omega arith) refl (in_turn s (fields_of s EN) (entry_at s) (entries_of s) (entry_stands s R))
kind_stands s R (suc (suc (suc (suc (suc (suc (suc (suc zero)))))))) lt = (R.end_mark.first, (R.end_mark.second, omega (arith, R.whole)))
kind_stands s R (suc (suc (suc (suc (suc (suc (suc (suc (suc n))))))))) lt = absurd (omega arith)

pub fields_stand : FieldsStand
unfolding start_of kind_at
fields_stand s R = in_turn s (λ n. records_of s (kind_at n)) (start_of s) 9 (kind_stands s R)
