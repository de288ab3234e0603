-- The two readings of an entry, and two certificates that differ only in ranks: their entries are the same to the cabinet. Assumes nothing.
use Prim.Native.Nat.{ℕ, ◌+◌, ◌-◌, ◌/◌, ◌%◌, ◌≤◌, ◌<◌}
use mathlib.Core.Bool.{Bool, true, false}
use mathlib.Core.List.{List}
use mathlib.Core.Logic.{◌⊎◌, inl, inr, ⊎_elim}
use mathlib.Core.Path.{◌≡◌, refl, sym, ap}
use native.Mathlib.Nat.{div-add-mod', mod-lt, div-lt_iff_lt-mul, eq-or-lt_of_le}
use native.Mathlib.Omega.{arith}
use borrow.Author.Tests.{ltb-true, ltb-false}
use lib.Dec.{ltb}
use Rattle.certificate.specs.Octets.{byte_at, u16_at}
use Rattle.certificate.specs.Layout.{entries_of, entries_start, entry_at, end_at, cell_of, mode_of, signal_of, next_mode_of}
use Rattle.certificate.specs.Facts.{Readable}
use Rattle.certificate.specs.Entries.{IsRankByte, DifferInRanks}
use Rattle.certificate.specs.Laws.{ReadingsStand, SameButRanks, DifferIsPlain, CabinetReadsNoRank, RanksBack}
use Rattle.certificate.proofs.Offsets.{starts}
use Rattle.certificate.proofs.Front.{AgreeBefore, entries_start_lem}

pub readings_stand : ReadingsStand
readings_stand s e =
    record {
      cabinet = (refl, (byte_at_lem (omega arith), (byte_at_lem (omega arith), (byte_at_lem (omega arith), omega arith))));
      bench = (refl, (byte_at_lem (omega arith), (byte_at_lem (omega arith), (byte_at_lem (omega arith), (ap (u16_at s) (omega arith), omega arith)))));
    }
  where
    byte_at_lem : {o p : ℕ} → o ≡ p → byte_at s o ≡ byte_at s p
    byte_at_lem e = ap (byte_at s) e

-- Every offset lies before the first entry, in one of the nine bytes of an entry, or behind the last.

module _ {s t : List ℕ} (P : SameButRanks s t) where
  -- byte i of entry e
  in_entry : (o e i : ℕ) → o ≡ entry_at s e + i → e < entries_of s → i < 9 → (IsRankByte s o → ⊥) → byte_at s o ≡ byte_at t o
  in_entry o e i place lt small free = go (ltb i 7) refl
    where
      go : (b : Bool) → ltb i 7 ≡ b → byte_at s o ≡ byte_at t o
      go true q = rw place (P.entry e i lt (ltb-true _ _ q))
      go false q = absurd (free (e, lt, ⊎_elim (λ (seventh : 7 ≡ i). inl (omega arith)) (λ (more : 7 < i). inr (omega arith)) (eq-or-lt_of_le (ltb-false _ _ q))))

  -- which entry's
  in_entries : (o : ℕ) → entries_start s ≤ o → o < end_at s → (IsRankByte s o → ⊥) → byte_at s o ≡ byte_at t o
  unfolding end_at
  in_entries o least most =
      let k : ℕ = o - entries_start s in
      in_entry o (k / 9) (k % 9) (omega (arith, div-add-mod' k 9)) ((div-lt_iff_lt-mul (omega arith)).1 (omega arith)) (mod-lt k (omega arith))

  anywhere : (o : ℕ) → (IsRankByte s o → ⊥) → byte_at s o ≡ byte_at t o
  anywhere o free = go (ltb o (entries_start s)) refl (ltb o (end_at s)) refl
    where
      go : (b : Bool) → ltb o (entries_start s) ≡ b → (d : Bool) → ltb o (end_at s) ≡ d → byte_at s o ≡ byte_at t o
      go true q _ _ = P.front o (ltb-true _ _ q)
      go false q true w = in_entries o (ltb-false _ _ q) (ltb-true _ _ w) free
      go false q false w = P.back o (ltb-false _ _ w)

-- no rank stands before the first entry, in the first seven bytes of one, or behind the last
module _ {s t : List ℕ} (D : DifferInRanks s t) where
  front_same : (o : ℕ) → o < entries_start s → byte_at s o ≡ byte_at t o
  front_same o lt = D.bytes o (λ (e, _, p). ⊎_elim (λ q. omega arith) (λ q. omega arith) p)

  entry_same : (o e i : ℕ) → o ≡ entry_at s e + i → i < 7 → byte_at s o ≡ byte_at t o
  entry_same o e i place h = D.bytes o (λ (f, _, q). ⊎_elim (λ w. omega arith) (λ w. omega arith) q)

  back_same : (o : ℕ) → end_at s ≤ o → byte_at s o ≡ byte_at t o
  unfolding end_at
  back_same o le = D.bytes o (λ (e, lt, p). ⊎_elim (λ q. omega arith) (λ q. omega arith) p)

pub differ_is_plain : DifferIsPlain
differ_is_plain s t = (
  (λ D. record { size = D.size; front = front_same D; entry = λ e i _ h. entry_same D _ e i refl h; back = back_same D }),
  (λ P. record { size = P.size; bytes = anywhere P }),
)

module _ {s t : List ℕ} (R : Readable s) (D : DifferInRanks s t) where
  pub before : AgreeBefore s t
  before = record { same = λ o lt _ _. front_same D o lt }

  pub entries_same : entries_of s ≡ entries_of t
  entries_same = cc (front_same D 7 (omega (arith, starts s)), front_same D 8 (omega (arith, starts s)))

  -- bytes of an entry, at their places in either
  byte_same : (i o p e : ℕ) → i < 7 → o ≡ entry_at s e + i → p ≡ entry_at t e + i → byte_at s o ≡ byte_at t p
  byte_same i o p e h here there = let place : p ≡ o = omega (arith, entries_start_lem R before) in rw place (entry_same D o e i here h)

  entry_byte : (i : ℕ) → i < 7 → (e : ℕ) → byte_at s (entry_at s e + i) ≡ byte_at t (entry_at t e + i)
  entry_byte i h e = byte_same i _ _ e h refl refl

  pub cell_of_same : (e : ℕ) → cell_of s e ≡ cell_of t e
  cell_of_same e =
      let a = entry_byte 2 (omega arith) e in
      let b : byte_at s (entry_at s e + 2 + 1) ≡ byte_at t (entry_at t e + 2 + 1) = byte_same 3 _ _ e (omega arith) (omega arith) (omega arith) in
      cc

  pub mode_of_same : (e : ℕ) → mode_of s e ≡ mode_of t e
  mode_of_same = entry_byte 4 (omega arith)

  pub signal_of_same : (e : ℕ) → signal_of s e ≡ signal_of t e
  signal_of_same = entry_byte 5 (omega arith)

  pub next_mode_same : (e : ℕ) → next_mode_of s e ≡ next_mode_of t e
  next_mode_same = entry_byte 6 (omega arith)

pub cabinet_reads_no_rank : CabinetReadsNoRank
cabinet_reads_no_rank s t R D e = cc (cell_of_same R D e, mode_of_same R D e, signal_of_same R D e, next_mode_same R D e)

pub ranks_back : RanksBack
ranks_back s t R D =
    record {
      size = sym D.size;
      bytes = λ o no. sym (D.bytes o (λ (e, lt, p). no (e, rw (← entries_same R D) lt, place e p)));
    }
  where
    place : {o : ℕ} (e : ℕ) → ((o ≡ entry_at s e + 7) ⊎ (o ≡ entry_at s e + 8)) → (o ≡ entry_at t e + 7) ⊎ (o ≡ entry_at t e + 8)
    place e (inl q) = inl (omega (arith, entries_start_lem R (before R D)))
    place e (inr q) = inr (omega (arith, entries_start_lem R (before R D)))
