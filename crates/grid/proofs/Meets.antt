-- An interval meets a closed range exactly if it holds an exact point of the range. Assumes nothing.
use Prim.Native.Nat.{ℕ, ◌+◌, ◌*◌, max, ◌≤◌, ◌<◌}
use mathlib.Core.List.{List}
use mathlib.Core.Bool.{Bool, true, false, cond, ◌&&◌, false≢true}
use mathlib.Core.Logic.{◌↔◌}
use mathlib.Core.Path.{◌≡◌, refl, sym}
use native.Mathlib.Nat.{mul_left_comm, le_of_mul-le-mul_left, lt_of_mul-lt-mul_left}
use native.Mathlib.Omega.{arith}
use borrow.Author.Tests.{leb-true, leb-false, le-leb, lt-leb, ltb-true, ltb-false}
use lib.Dec.{leb}
use Rattle.certificate.specs.Layout.{links_of, cap_of, intervals_of}
use Rattle.certificate.specs.Facts.{Readable}
use Rattle.certificate.proofs.Tests.{and_both, both_and}
use Rattle.grid.specs.Intervals.{is_inner, lower_edge, upper_edge, InInterval}
use Rattle.grid.specs.Successors.{meets}
use Rattle.grid.proofs.Edges.{upper_most, lower_most, lower_below_upper}

-- the test in plain terms
pub record Meets (s : List ℕ) (l i low high : ℕ) : Type 0 where
  pub lower : 10000 * lower_edge s l i ≤ high
  pub upper : i + 1 < intervals_of s l → low < 10000 * upper_edge s l i
  pub last : intervals_of s l ≤ i + 1 → low ≤ 10000 * cap_of s l

-- chains of tests, as statements about numbers
and_iff : (a b : Bool) → ((a && b) ≡ true) ↔ ((a ≡ true) × (b ≡ true))
and_iff a b = (and_both a b, λ h. both_and a b h.0 h.1)

cond_iff : (t a b : Bool) → (cond t a b ≡ true) ↔ ((t ≡ true → a ≡ true) × (t ≡ false → b ≡ true))
cond_iff true a b = (λ e. (λ _. e, λ n. absurd (false≢true (sym n))), λ h. h.0 refl)
cond_iff false a b = (λ e. (λ n. absurd (false≢true n), λ _. e), λ h. h.1 refl)

leb_iff : (a b : ℕ) → (leb a b ≡ true) ↔ (a ≤ b)
leb_iff a b = (leb-true a b, le-leb a b)

not_leb_iff : (a b : ℕ) → (leb a b ≡ false) ↔ (b < a)
not_leb_iff a b = (leb-false a b, lt-leb a b)

ruleset in-plain = (and_iff, cond_iff, leb_iff, not_leb_iff)

pub meets_plain : (s : List ℕ) (l i low high : ℕ) → meets s l i low high ≡ true → Meets s l i low high
unfolding meets
meets_plain s l i low high e =
    let h = simp in-plain at e in
    record {
      lower = omega arith;
      upper = λ inner. omega (arith, h.1.0 inner);
      last = λ outer. omega (arith, h.1.1 (omega arith));
    }

pub plain_meets : (s : List ℕ) (l i low high : ℕ) → Meets s l i low high → meets s l i low high ≡ true
unfolding meets
plain_meets s l i low high M =
    simp in-plain (omega arith, (λ inner. omega (arith, M.upper inner), λ outer. omega (arith, M.last (omega arith))))

-- a point of the interval, over any scale D, that lies in the range: then they meet
pub point_meets : (s : List ℕ) (l i D x low high : ℕ) → 1 ≤ D → InInterval s l i D x → D * low ≤ 10000 * x → 10000 * x ≤ D * high → Meets s l i low high
point_meets s l i D x low high d I hl hh =
    record {
      lower =
          let h : D * (10000 * lower_edge s l i) ≤ D * high = rw mul_left_comm (omega (arith, I.lower)) in
          le_of_mul-le-mul_left h d;
      upper = λ inner.
          let h : D * low < D * (10000 * upper_edge s l i) = rw (mul_left_comm D 10000) (omega (arith, I.upper inner)) in
          lt_of_mul-lt-mul_left D h;
      last = λ outer.
          let h : D * low ≤ D * (10000 * cap_of s l) = rw (mul_left_comm D 10000) (omega (arith, I.cap)) in
          le_of_mul-le-mul_left h d;
    }

-- where they meet, the greater of the lower edge and the low end lies in both
unfoldable pub meeting : List ℕ → ℕ → ℕ → ℕ → ℕ
meeting s l i low = max (10000 * lower_edge s l i) low

pub meeting_held : (s : List ℕ) → Readable s → (l i low high : ℕ) → l < links_of s → i < intervals_of s l → Meets s l i low high → InInterval s l i 10000 (meeting s l i low)
unfolding meeting
meeting_held s R l i low high lt h M =
    record {
      exists = h;
      lower = omega arith;
      upper = λ inner. omega (arith, M.upper inner, lower_below_upper s R l lt i h);
      cap = go (is_inner s l i) refl;
    }
  where
    go : (b : Bool) → is_inner s l i ≡ b → max (10000 * lower_edge s l i) low ≤ 10000 * cap_of s l
    go true e = omega (arith, M.upper (ltb-true _ _ e), lower_most s R l lt i h, upper_most s R l lt i)
    go false e = omega (arith, M.last (ltb-false _ _ e), lower_most s R l lt i h)
