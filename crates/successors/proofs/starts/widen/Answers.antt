use Rattle.std.proofs.Common.{ℕ, suc, ◌+◌, ◌*◌, ◌-◌, ◌≤◌, ◌<◌, ◌≡◌, ◌∙◌, inl, inr, arith}
use native.Mathlib.Nat.{zero-mul, suc-mul, mul-le-mul_right, eq-or-lt_of_le}
use mathlib.Core.Logic.{⊎_elim}
use Rattle.successors.proofs.starts.widen.Goals as goal

-- rows before one another
rows_least : (a b n : ℕ) → a < b → a * n + n ≤ b * n
rows_least a b n lt = let m : suc a * n ≤ b * n = mul-le-mul_right n lt in omega (arith, suc-mul a n)

first_place : (a n m : ℕ) → (a - a) * n + m ≡ 0 + m
first_place a n m = let z : a - a ≡ 0 = omega arith in rw z (omega (arith, zero-mul n))

pub row-requires : goal.row-requires
row-requires c =
    let l = c.loop-i in
    let a = c.args in
    let p = c.requires in
    let least = rows_least 0 (l.i - a.from) a.n (omega (arith, l.invariant.0)) in
    let more = rows_least (l.i - a.from) (a.to + 1 - a.from) a.n (omega (arith, l.invariant.0)) in
    (inr (omega (arith, l.invariant.2, zero-mul a.n)), omega (arith, l.invariant.2, p.2), λ m lt. rw (l.invariant.3 m lt) (omega (arith, p.3 m lt)))

pub loop-i-preserved : goal.loop-i-preserved
loop-i-preserved c =
    let l = c.loop-i in
    let a = c.args in
    let e = c.row.ensures in
    let up : l.i + 1 - a.from ≡ suc (l.i - a.from) = omega (arith, l.invariant.0) in
    let one = rows_least 0 (l.i - a.from) a.n (omega (arith, l.invariant.0)) in (
      omega (arith, l.invariant.0),
      omega arith,
      rw up (omega (arith, l.invariant.2, suc-mul (l.i - a.from) a.n)),
      λ m lt. e.1 m (inl (omega (arith, l.invariant.2, zero-mul a.n))) ∙ l.invariant.3 m lt,
      λ j m above to lt.
          ⊎_elim
          (λ (is : j ≡ l.i).
          let place : (l.i - a.from) * a.n + m ≡ l.at + m = omega (arith, l.invariant.2) in
          rw (is, place) (e.0 m lt ∙ rw (l.invariant.3 m lt)))
          (λ (before : j < l.i).
          let row = rows_least (j - a.from) (l.i - a.from) a.n (omega arith) in
          e.1 ((j - a.from) * a.n + m) (inl (omega (arith, l.invariant.2))) ∙ l.invariant.4 j m above before lt)
          (eq-or-lt_of_le (omega arith)),
    )

pub returns : goal.returns
returns c =
    let l = c.loop-i in
    let a = c.args in
    let e = c.row-2.ensures in
    let end : l.i ≡ a.to + 1 = omega (arith, l.invariant.1) in (
      l.invariant.2 ∙ rw end,
      λ j m from to lt.
          ⊎_elim
          (λ (is : a.from ≡ j).
          let place : (a.from - a.from) * a.n + m ≡ 0 + m = first_place a.from a.n m in
          rw (← is, place) (e.0 m lt ∙ rw (l.invariant.3 m lt)))
          (λ (above : a.from < j).
          let row = rows_least 0 (j - a.from) a.n (omega arith) in
          e.1 ((j - a.from) * a.n + m) (inr (omega (arith, zero-mul a.n))) ∙ l.invariant.4 j m above (omega (arith, end)) lt)
          (eq-or-lt_of_le from),
    )
