-- The bytes before the first entry agree, the entry count left aside, exactly if the fields there do. Assumes nothing.
use Prim.Native.Nat.{ℕ, zero, suc, ◌+◌, ◌*◌, ◌-◌, ◌<◌}
use mathlib.Core.Bool.{Bool, true, false, cond}
use mathlib.Core.List.{List, [], ◌∷◌, ◌++◌}
use mathlib.Core.Logic.{inl, inr}
use mathlib.Core.Path.{◌≡◌, refl, sym, ap, ◌∙◌}
use native.Mathlib.Omega.{arith}
use lib.ListN.{length}
use Rattle.certificate.specs.Octets.{byte_at}
use Rattle.certificate.specs.Layout.{entry_size, kind_byte_of, links_of, turns_of, signals_of, boxes_of, entries_of, remembers, takes_turns, start_flow_of, mode_records_of, goal_number_of, goal_for, intervals_of, entries_start, end_at}
use Rattle.certificate.specs.Due.{LK, TN, SG, MD, GR, AR, EN, ZZ}
use Rattle.certificate.specs.Fields.{Field, byte, u16, Stand, each, fields_of, records_of}
use Rattle.certificate.specs.Facts.{HeaderMark, Readable}
use Rattle.certificate.proofs.Front.{AgreeBefore, links_same, turns_same, signals_same, modes_same, boxes_same, remembers_same, turning_same, intervals_same}
use Rattle.certificate.proofs.Offsets.{starts}
use Rattle.certificate.proofs.Standing.{fields_stand}
use Rattle.covering.specs.Covering.{SameFront}
use Rattle.covering.specs.Laws.{front_fields, AreBytes, FrontIsPlain}
use Rattle.covering.proofs.Fields.{Alike, alike_each, stand_split, SameBytes, same_fields, same_bytes}

-- the records between the header and the first entry
abbrev roads : List ℕ → List Field
roads s = records_of s LK ++ records_of s TN ++ records_of s SG ++ records_of s MD ++ records_of s GR ++ records_of s AR

-- the same, kind by kind
abbrev kinds_of : List ℕ → ℕ → List Field
kinds_of s zero = records_of s LK
kinds_of s (suc zero) = records_of s TN
kinds_of s (suc (suc zero)) = records_of s SG
kinds_of s (suc (suc (suc zero))) = records_of s MD
kinds_of s (suc (suc (suc (suc zero)))) = records_of s GR
kinds_of s (suc (suc (suc (suc (suc n))))) = records_of s AR

entries_size : (s : List ℕ) (n o e : ℕ) → Stand s o (each n (fields_of s EN)) e → e ≡ o + entry_size * n
entries_size s zero o e h = omega arith
entries_size s (suc n) o e h =
    let (m, before, last) = stand_split s (each n (fields_of s EN)) (fields_of s EN n) o e h in
    omega (arith, entries_size s n o m before, last.1.1.1.1.1.1.1)

-- they stand from offset 9 on up to the first entry
roads_stand : (s : List ℕ) → Readable s → Stand s 9 (roads s) (entries_start s)
unfolding end_at
roads_stand s R =
    let h = (fields_stand s R).1.1.1.1.1.1.1.1 in
    let (q, most, last) = stand_split s (roads s ++ records_of s EN) (records_of s ZZ) 9 (length s) h in
    let (p, front, entries) = stand_split s (roads s) (records_of s EN) 9 q most in
    let at : p ≡ entries_start s = omega (arith, entries_size s (entries_of s) p q entries, last.1.1, R.whole) in
    rw (← at) front

-- records of the same sizes, as many of them
records_alike : (n m : ℕ) (f g : ℕ → List Field) → n ≡ m → ((i : ℕ) → i < n → Alike (f i) (g i)) → Alike (each n f) (each m g)
records_alike n m f g e h = rw (← e) (alike_each n f g h)

-- what some kinds have and others have not
some_alike : (b c : Bool) (f g : List Field) → b ≡ c → Alike f g → Alike (cond b f []) (cond c g [])
some_alike true true f g e a = a
some_alike false false f g e a = tt
some_alike true false f g e a = let z : ◌≡◌ {A = ℕ} 0 1 = cc in absurd (omega arith)
some_alike false true f g e a = let z : ◌≡◌ {A = ℕ} 0 1 = cc in absurd (omega arith)

module _ {s t : List ℕ} (R : Readable s) (A : AgreeBefore s t) where
  link_alike : (l : ℕ) → Alike (fields_of s LK l) (fields_of t LK l)
  link_alike l = some_alike (remembers s) (remembers t) (u16 (start_flow_of s l) ∷ []) (u16 (start_flow_of t l) ∷ []) (remembers_same R A) tt

  mode_alike : (m : ℕ) → Alike (fields_of s MD m) (fields_of t MD m)
  mode_alike m =
      some_alike (takes_turns s) (takes_turns t)
      (byte (goal_number_of s m) ∷ each (links_of s) (λ l. u16 (goal_for s m l) ∷ []))
      (byte (goal_number_of t m) ∷ each (links_of t) (λ l. u16 (goal_for t m l) ∷ []))
      (turning_same R A)
      (records_alike (links_of s) (links_of t) _ _ (links_same R A) (λ i lt. tt))

  grid_alike : (l : ℕ) → l < links_of s → Alike (fields_of s GR l) (fields_of t GR l)
  grid_alike l lt = records_alike (intervals_of s l - 1) (intervals_of t l - 1) _ _ (ap (λ (n : ℕ). n - 1) (intervals_same R A l lt)) (λ i h. tt)

  box_alike : (b : ℕ) → Alike (fields_of s AR b) (fields_of t AR b)
  box_alike b = records_alike (links_of s) (links_of t) _ _ (links_same R A) (λ i lt. tt)

  mode_records_same : mode_records_of s ≡ mode_records_of t
  unfolding mode_records_of
  mode_records_same = rw (remembers_same R A, modes_same R A)

  -- kind by kind
  kinds_alike : (n : ℕ) → n < 6 → Alike (kinds_of s n) (kinds_of t n)
  kinds_alike zero lt = records_alike (links_of s) (links_of t) (fields_of s LK) (fields_of t LK) (links_same R A) (λ l h. link_alike l)
  kinds_alike (suc zero) lt = records_alike (turns_of s) (turns_of t) (fields_of s TN) (fields_of t TN) (turns_same R A) (λ i h. tt)
  kinds_alike (suc (suc zero)) lt = records_alike (signals_of s) (signals_of t) (fields_of s SG) (fields_of t SG) (signals_same R A) (λ i h. tt)
  kinds_alike (suc (suc (suc zero))) lt = records_alike (mode_records_of s) (mode_records_of t) (fields_of s MD) (fields_of t MD) mode_records_same (λ m h. mode_alike m)
  kinds_alike (suc (suc (suc (suc zero)))) lt = records_alike (links_of s) (links_of t) (fields_of s GR) (fields_of t GR) (links_same R A) grid_alike
  kinds_alike (suc (suc (suc (suc (suc n))))) lt = records_alike (boxes_of s) (boxes_of t) (fields_of s AR) (fields_of t AR) (boxes_same R A) (λ b h. box_alike b)

  roads_alike : Alike (roads s) (roads t)
  roads_alike = alike_each 6 (kinds_of s) (kinds_of t) kinds_alike

-- a field's value, and the fields behind the first six
value_at : ℕ → List Field → ℕ
value_at n [] = 0
value_at zero (byte v ∷ f) = v
value_at zero (u16 v ∷ f) = v
value_at (suc n) (v ∷ f) = value_at n f

behind : ℕ → List Field → List Field
behind zero f = f
behind (suc n) [] = []
behind (suc n) (v ∷ f) = behind n f

-- every mark of the first record begins with H
header_first : (s : List ℕ) → HeaderMark s → byte_at s 0 ≡ 72
header_first s (inl m) = m.first
header_first s (inr (inl m)) = m.first
header_first s (inr (inr m)) = m.first

module _ (s t : List ℕ) (R : Readable s) (Q : Readable t) where
  fields_of_front : SameFront s t → front_fields s ≡ front_fields t
  fields_of_front F =
      let A : AgreeBefore s t = record { same = F.bytes } in
      let same : roads s ≡ roads t =
      same_fields s t (roads s) (roads t) 9 (entries_start s) (entries_start t) (roads_alike R A) (roads_stand s R) (roads_stand t Q)
      (λ k l u. F.bytes k u (λ z. omega arith) (λ z. omega arith)) in
      let kind : kind_byte_of s ≡ kind_byte_of t = F.bytes 1 (omega (arith, starts s)) (λ z. omega arith) (λ z. omega arith) in
      cc (kind, links_same R A, turns_same R A, signals_same R A, modes_same R A, boxes_same R A, same)

  module _ (B : AreBytes s) (C : AreBytes t) (e : front_fields s ≡ front_fields t) where
    stands_too : Stand t 9 (roads s) (entries_start t)
    unfolding behind
    stands_too = rw (ap (behind 6) e) (roads_stand t Q)

    behind_header : (entries_start s ≡ entries_start t) × SameBytes s t 9 (entries_start s)
    behind_header = same_bytes s t B C (roads s) 9 (entries_start s) (entries_start t) (roads_stand s R) stands_too

    bytes_agree : (o : ℕ) → o < entries_start s → (o ≡ 7 → ⊥) → (o ≡ 8 → ⊥) → byte_at s o ≡ byte_at t o
    unfolding value_at
    bytes_agree zero lt p q = header_first s R.header.mark ∙ sym (header_first t Q.header.mark)
    bytes_agree (suc zero) lt p q = ap (value_at 0) e
    bytes_agree (suc (suc zero)) lt p q = ap (value_at 1) e
    bytes_agree (suc (suc (suc zero))) lt p q = ap (value_at 2) e
    bytes_agree (suc (suc (suc (suc zero)))) lt p q = ap (value_at 3) e
    bytes_agree (suc (suc (suc (suc (suc zero))))) lt p q = ap (value_at 4) e
    bytes_agree (suc (suc (suc (suc (suc (suc zero)))))) lt p q = ap (value_at 5) e
    bytes_agree (suc (suc (suc (suc (suc (suc (suc zero))))))) lt p q = absurd (p refl)
    bytes_agree (suc (suc (suc (suc (suc (suc (suc (suc zero)))))))) lt p q = absurd (q refl)
    bytes_agree (suc (suc (suc (suc (suc (suc (suc (suc (suc n))))))))) lt p q = behind_header.1 _ (omega arith) lt

    front_of_fields : SameFront s t
    front_of_fields = record { start = behind_header.0; bytes = bytes_agree }

pub front_is_plain : FrontIsPlain
front_is_plain s t R Q B C = (fields_of_front s t R Q, front_of_fields s t R Q B C)
