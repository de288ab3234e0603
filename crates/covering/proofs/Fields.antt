-- Fields that stand at the same place in two byte strings tell the same as their bytes do. Assumes nothing.
use Prim.Native.Nat.{ℕ, zero, suc, ◌+◌, ◌≤◌, ◌<◌}
use mathlib.Core.Bool.{Bool, true, false}
use mathlib.Core.List.{List, [], ◌∷◌, ◌++◌}
use mathlib.Core.Path.{◌≡◌, refl, sym, ap₂, ◌∙◌}
use native.Mathlib.Omega.{arith}
use borrow.Author.Tests.{eqb-true, eqb-false}
use lib.Dec.{eqb}
use Rattle.certificate.specs.Octets.{byte_at}
use Rattle.certificate.specs.Fields.{Field, byte, u16, Stand, each}
use Rattle.covering.specs.Laws.{AreBytes}

-- as many fields, of the same sizes
abbrev pub Alike : List Field → List Field → Type 0
Alike [] [] = Unit
Alike [] (w ∷ g) = ⊥
Alike (v ∷ f) [] = ⊥
Alike (byte v ∷ f) (byte w ∷ g) = Alike f g
Alike (u16 v ∷ f) (u16 w ∷ g) = Alike f g
Alike (byte v ∷ f) (u16 w ∷ g) = ⊥
Alike (u16 v ∷ f) (byte w ∷ g) = ⊥

pub alike_join : (f g p q : List Field) → Alike f g → Alike p q → Alike (f ++ p) (g ++ q)
alike_join [] [] p q a b = b
alike_join [] (w ∷ g) p q a b = absurd a
alike_join (byte v ∷ f) [] p q a b = absurd a
alike_join (u16 v ∷ f) [] p q a b = absurd a
alike_join (byte v ∷ f) (byte w ∷ g) p q a b = alike_join f g p q a b
alike_join (u16 v ∷ f) (u16 w ∷ g) p q a b = alike_join f g p q a b
alike_join (byte v ∷ f) (u16 w ∷ g) p q a b = absurd a
alike_join (u16 v ∷ f) (byte w ∷ g) p q a b = absurd a

pub alike_each : (n : ℕ) (f g : ℕ → List Field) → ((i : ℕ) → i < n → Alike (f i) (g i)) → Alike (each n f) (each n g)
alike_each zero f g h = tt
alike_each (suc n) f g h = alike_join (each n f) (each n g) (f n) (g n) (alike_each n f g (λ i lt. h i (omega arith))) (h n (omega arith))

module _ (s : List ℕ) where
  -- fields end no earlier than they begin
  stand_least : (f : List Field) (o e : ℕ) → Stand s o f e → o ≤ e
  stand_least [] o e h = omega arith
  stand_least (byte v ∷ f) o e h = omega (arith, stand_least f (o + 1) e h.1)
  stand_least (u16 v ∷ f) o e h = omega (arith, stand_least f (o + 2) e h.1)

  -- fields before fields
  pub stand_split : (f g : List Field) (o e : ℕ) → Stand s o (f ++ g) e → (m : ℕ) × Stand s o f m × Stand s m g e
  stand_split [] g o e h = (o, refl, h)
  stand_split (byte v ∷ f) g o e h = let (m, a, b) = stand_split f g (o + 1) e h.1 in (m, (h.0, a), b)
  stand_split (u16 v ∷ f) g o e h = let (m, a, b) = stand_split f g (o + 2) e h.1 in (m, (h.0, a), b)

-- from o to before e the bytes of s and t are the same
abbrev pub SameBytes : List ℕ → List ℕ → ℕ → ℕ → Type 0
SameBytes s t o e = (k : ℕ) → o ≤ k → k < e → byte_at s k ≡ byte_at t k

module _ (s t : List ℕ) where
  pub same_fields : (f g : List Field) (o e d : ℕ) → Alike f g → Stand s o f e → Stand t o g d → SameBytes s t o e → f ≡ g
  same_fields [] [] o e d a h k same = refl
  same_fields [] (w ∷ g) o e d a h k same = absurd a
  same_fields (byte v ∷ f) [] o e d a h k same = absurd a
  same_fields (u16 v ∷ f) [] o e d a h k same = absurd a
  same_fields (byte v ∷ f) (byte w ∷ g) o e d a h k same =
      let le = stand_least s f (o + 1) e h.1 in
      let first : v ≡ w = sym h.0 ∙ same o (omega arith) (omega arith) ∙ k.0 in
      let rest : f ≡ g = same_fields f g (o + 1) e d a h.1 k.1 (λ i l u. same i (omega arith) u) in
      ap₂ (λ (x : ℕ) (y : List Field). byte x ∷ y) first rest
  same_fields (u16 v ∷ f) (u16 w ∷ g) o e d a h k same =
      let le = stand_least s f (o + 2) e h.1 in
      let high : byte_at s o ≡ byte_at t o = same o (omega arith) (omega arith) in
      let low : byte_at s (o + 1) ≡ byte_at t (o + 1) = same (o + 1) (omega arith) (omega arith) in
      let first : v ≡ w = omega (arith, h.0, k.0) in
      let rest : f ≡ g = same_fields f g (o + 2) e d a h.1 k.1 (λ i l u. same i (omega arith) u) in
      ap₂ (λ (x : ℕ) (y : List Field). u16 x ∷ y) first rest
  same_fields (byte v ∷ f) (u16 w ∷ g) o e d a h k same = absurd a
  same_fields (u16 v ∷ f) (byte w ∷ g) o e d a h k same = absurd a

  -- the first byte, then the others
  then_bytes : {o e : ℕ} → byte_at s o ≡ byte_at t o → SameBytes s t (o + 1) e → SameBytes s t o e
  then_bytes {o} {e} first rest k l u = go (eqb o k) refl
    where
      go : (b : Bool) → eqb o k ≡ b → byte_at s k ≡ byte_at t k
      go true x = rw (← eqb-true o k x) first
      go false x = let other = eqb-false o k x in rest k (omega arith) u

  pub same_bytes : AreBytes s → AreBytes t → (f : List Field) (o e d : ℕ) → Stand s o f e → Stand t o f d → (e ≡ d) × SameBytes s t o e
  same_bytes B C [] o e d h k = (sym h ∙ k, λ i l u. absurd (omega arith))
  same_bytes B C (byte v ∷ f) o e d h k =
      let (ends, rest) = same_bytes B C f (o + 1) e d h.1 k.1 in
      (ends, then_bytes (h.0 ∙ sym k.0) rest)
  same_bytes B C (u16 v ∷ f) o e d h k =
      let (ends, rest) = same_bytes B C f (o + 2) e d h.1 k.1 in
      let high : byte_at s o ≡ byte_at t o = omega (arith, h.0, k.0, B (o + 1), C (o + 1)) in
      let low : byte_at s (o + 1) ≡ byte_at t (o + 1) = omega (arith, h.0, k.0, B (o + 1), C (o + 1)) in
      (ends, then_bytes high (then_bytes low (λ i l u. rest i (omega arith) u)))
