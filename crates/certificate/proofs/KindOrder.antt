-- The kinds of records by their order and by the refusal of their fields; what is wrong with a record excludes what else might be. Assumes nothing.
use Prim.Native.Nat.{ℕ, zero, suc, ◌-◌, ◌≤◌, ◌<◌}
use mathlib.Core.List.{List}
use mathlib.Core.Path.{◌≡◌, refl, sym, ap, ◌∙◌}
use mathlib.Core.Logic.{◌⊎◌, inl, inr}
use native.Mathlib.Omega.{arith}
use lib.Dec.{leb, eqb}
use Rattle.certificate.specs.Loops.{pick}
use Rattle.certificate.specs.Due.{Kind, HD, LK, TN, SG, MD, GR, AR, EN, ZZ, order_of, field_number, Present, Marked, Whole, Line, TooShort, WrongMark}
use Rattle.certificate.proofs.KindSizes.{link_least, mode_least}

-- the kind of a place in the order, and the place of the kind with a refusal
unfoldable pub kind_at : ℕ → Kind
kind_at zero = HD
kind_at (suc zero) = LK
kind_at (suc (suc zero)) = TN
kind_at (suc (suc (suc zero))) = SG
kind_at (suc (suc (suc (suc zero)))) = MD
kind_at (suc (suc (suc (suc (suc zero))))) = GR
kind_at (suc (suc (suc (suc (suc (suc zero)))))) = AR
kind_at (suc (suc (suc (suc (suc (suc (suc zero))))))) = EN
kind_at (suc (suc (suc (suc (suc (suc (suc (suc n)))))))) = ZZ

pub number_order : ℕ → ℕ
number_order n = pick (eqb n 2) 8 (pick (leb n 6) (n - 3) (n - 2))

pub record Placed (k : Kind) : Type 0 where
  pub at : kind_at (order_of k) ≡ k
  pub below : order_of k < 9
  pub least : 2 ≤ field_number k
  pub most : field_number k ≤ 9
  pub by_number : (field_number k ≡ 6 → ⊥) → number_order (field_number k) ≡ order_of k

pub placed : (k : Kind) → Placed k
unfolding kind_at number_order
placed HD = record { at = refl; below = omega arith; least = omega arith; most = omega arith; by_number = λ _. refl }
placed LK = record { at = refl; below = omega arith; least = omega arith; most = omega arith; by_number = λ _. refl }
placed TN = record { at = refl; below = omega arith; least = omega arith; most = omega arith; by_number = λ _. refl }
placed SG = record { at = refl; below = omega arith; least = omega arith; most = omega arith; by_number = λ _. refl }
placed MD = record { at = refl; below = omega arith; least = omega arith; most = omega arith; by_number = λ other. absurd (other refl) }
placed GR = record { at = refl; below = omega arith; least = omega arith; most = omega arith; by_number = λ _. refl }
placed AR = record { at = refl; below = omega arith; least = omega arith; most = omega arith; by_number = λ _. refl }
placed EN = record { at = refl; below = omega arith; least = omega arith; most = omega arith; by_number = λ _. refl }
placed ZZ = record { at = refl; below = omega arith; least = omega arith; most = omega arith; by_number = λ _. refl }

pub order_at : (n : ℕ) → n < 9 → order_of (kind_at n) ≡ n
unfolding kind_at
order_at zero lt = refl
order_at (suc zero) lt = refl
order_at (suc (suc zero)) lt = refl
order_at (suc (suc (suc zero))) lt = refl
order_at (suc (suc (suc (suc zero)))) lt = refl
order_at (suc (suc (suc (suc (suc zero))))) lt = refl
order_at (suc (suc (suc (suc (suc (suc zero)))))) lt = refl
order_at (suc (suc (suc (suc (suc (suc (suc zero))))))) lt = refl
order_at (suc (suc (suc (suc (suc (suc (suc (suc n)))))))) lt = omega arith

-- a kind is told by its order, and by its refusal unless that is 6
pub same_order : (j k : Kind) → order_of j ≡ order_of k → j ≡ k
same_order j k e = sym (placed j).at ∙ ap kind_at e ∙ (placed k).at

pub same_number : (j k : Kind) → field_number j ≡ field_number k → (field_number k ≡ 6 → ⊥) → j ≡ k
same_number j k e other = same_order j k (sym ((placed j).by_number (λ six. other (sym e ∙ six))) ∙ ap number_order e ∙ (placed k).by_number other)

-- 6 is the refusal of SG and of MD
pub kind_six : (k : Kind) → field_number k ≡ 6 → (k ≡ SG) ⊎ (k ≡ MD)
kind_six HD e = absurd (omega arith)
kind_six LK e = absurd (omega arith)
kind_six TN e = absurd (omega arith)
kind_six SG e = inl refl
kind_six MD e = inr refl
kind_six GR e = absurd (omega arith)
kind_six AR e = absurd (omega arith)
kind_six EN e = absurd (omega arith)
kind_six ZZ e = absurd (omega arith)

-- a whole record has its mark, and one as its line says the right one
whole_present : (s : List ℕ) (k : Kind) (i : ℕ) → Whole s k i → Present s k i
whole_present s HD i whole = omega arith
whole_present s LK i whole = omega (arith, link_least s)
whole_present s TN i whole = omega arith
whole_present s SG i whole = omega arith
whole_present s MD i whole = omega (arith, mode_least s)
whole_present s GR i whole = omega (arith, whole.0)
whole_present s AR i whole = omega arith
whole_present s EN i whole = omega arith
whole_present s ZZ i whole = omega arith

pub line_marked : (s : List ℕ) (k : Kind) (i : ℕ) → Line s k i → Marked s k i
line_marked s HD i line = line.mark
line_marked s LK i line = line.mark
line_marked s TN i line = line.0.mark
line_marked s SG i line = line.mark
line_marked s MD i line = line.0.mark
line_marked s GR i line = line.mark
line_marked s AR i line = line.mark
line_marked s EN i line = line.0.mark
line_marked s ZZ i line = line.0

-- a record that is too short is not whole, and is not one with a wrong mark
pub not-whole : (s : List ℕ) (k : Kind) (i : ℕ) → TooShort s k i → Whole s k i → ⊥
not-whole s k i (inl absent) whole = absent (whole_present s k i whole)
not-whole s k i (inr (mark, cut)) whole = cut whole

pub not_wrong : (s : List ℕ) (k : Kind) (i : ℕ) → TooShort s k i → WrongMark s k i → ⊥
not_wrong s k i (inl absent) wrong = absent wrong.0
not_wrong s k i (inr (mark, cut)) wrong = wrong.1 mark
