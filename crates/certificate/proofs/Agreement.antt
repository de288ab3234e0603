-- Two byte strings that agree up to the greatest length, and the tests that then give the same in both. Assumes nothing.
use Prim.Native.Nat.{ℕ, ◌+◌, ◌≤◌, ◌<◌}
use mathlib.Core.List.{List}
use mathlib.Core.Bool.{Bool, true, false}
use mathlib.Core.Path.{◌≡◌, refl, sym, ap, ◌∙◌}
use mathlib.Core.Logic.{⊎_elim}
use native.Mathlib.Omega.{arith}
use borrow.Author.Tests.{le-leb}
use lib.ListN.{length}
use lib.Dec.{leb}
use Rattle.certificate.specs.declared.Report.{Report}
use Rattle.certificate.specs.Octets.{byte_at, u16_at, ◌also◌}
use Rattle.certificate.specs.Checks.{refusal, fine, need, or_else, first_bad, marked, opened}
use Rattle.certificate.specs.Layout.{max_length}
use Rattle.certificate.proofs.Tests.{passes, or_stop, need_fail, first_same}

-- tests that follow one another: what follows need be the same only where the tests before it pass
pub or_same : {f f' g g' : Report} → f ≡ f' → (f.number ≡ 0 → g ≡ g') → or_else f g ≡ or_else f' g'
or_same {f} {f'} {g} {g'} p q =
    rw (← p)
    (⊎_elim
    (λ (z : f.number ≡ 0). ap (or_else f) (q z))
    (λ (z : f.number ≡ 0 → ⊥). or_stop f g z ∙ sym (or_stop f g' z))
    (passes f))

pub need_same : {b b' : Bool} {bad bad' next next' : Report} → b ≡ b' → bad ≡ bad' → (b ≡ true → next ≡ next') → need b bad next ≡ need b' bad' next'
need_same {b} {b'} {bad} {bad'} {next} {next'} p q r = rw (← p, ← q) (go b refl)
  where
    go : (c : Bool) → b ≡ c → need b bad next ≡ need b bad next'
    go true e = rw (r e)
    go false e = need_fail b bad next e ∙ sym (need_fail b bad next' e)

pub also_same : {a a' b b' : Bool} → a ≡ a' → (a ≡ true → b ≡ b') → (a also b) ≡ (a' also b')
unfolding ◌also◌
also_same {a} {a'} {b} {b'} p q = rw (← p) (go a q)
  where
    go : (c : Bool) → (c ≡ true → b ≡ b') → (c also b) ≡ (c also b')
    go true r = r refl
    go false r = refl

-- two loops of equal length whose tests agree as long as those before them pass
pub loop_same : {n n' : ℕ} {f f' : ℕ → Report} → n ≡ n' → ((k : ℕ) → k < n → ((j : ℕ) → j < k → (f j).number ≡ 0) → f k ≡ f' k) → first_bad n f ≡ first_bad n' f'
loop_same {n} {n'} {f} {f'} p h = rw (← p) (first_same n f f' h)

-- the same bytes up to the greatest length, and both strings longer
pub record Agree (s t : List ℕ) : Type 0 where
  pub same : (o : ℕ) → o ≤ max_length → byte_at s o ≡ byte_at t o
  pub long : max_length < length s
  pub long' : max_length < length t

module _ {s t : List ℕ} (A : Agree s t) where
  -- what stands at one offset of both
  pub byte_same : {o p : ℕ} → o ≡ p → o ≤ max_length → byte_at s o ≡ byte_at t p
  byte_same e h = rw (← e) (A.same _ h)

  pub u16_same : {o p : ℕ} → o ≡ p → o < max_length → u16_at s o ≡ u16_at t p
  u16_same {o} {p} e h =
      let a : byte_at s o ≡ byte_at t p = byte_same e (omega arith) in
      let b : byte_at s (o + 1) ≡ byte_at t (p + 1) = byte_same (omega arith) (omega arith) in
      cc

  -- a record of either string that ends by the greatest length is present
  pub present : {o p : ℕ} → o ≡ p → o ≤ max_length → leb o (length s) ≡ leb p (length t)
  present {o} {p} e h = le-leb o (length s) (omega (arith, A.long)) ∙ sym (le-leb p (length t) (omega (arith, A.long')))

  -- a mark, and a record's mark and its presence
  pub marked_same : (m k : ℕ) {o p : ℕ} → o ≡ p → o < max_length → marked s o m k ≡ marked t p m k
  unfolding marked
  marked_same m k {o} {p} e h =
      let a : byte_at s o ≡ byte_at t p = byte_same e (omega arith) in
      let b : byte_at s (o + 1) ≡ byte_at t (p + 1) = byte_same (omega arith) (omega arith) in
      cc

  pub opened_same : {mark mark' : Bool} {o p size size' : ℕ} → mark ≡ mark' → o ≡ p → size ≡ size' → 2 ≤ size → o + size ≤ max_length → opened s o mark size ≡ opened t p mark' size'
  unfolding opened
  opened_same {mark} {mark'} {o} {p} {size} {size'} m e f least h =
      need_same (present (omega arith) (omega arith)) (ap (refusal 1) e)
      (λ _. need_same m (ap (refusal 2) e)
      (λ _. need_same (present (omega arith) (omega arith)) (ap (refusal 1) e) (λ _. refl)))

  -- a record of one mark
  pub marked_opened : (m k : ℕ) {o p size size' : ℕ} → o ≡ p → size ≡ size' → 2 ≤ size → o + size ≤ max_length
      → opened s o (marked s o m k) size ≡ opened t p (marked t p m k) size'
  marked_opened m k e f least h = opened_same (marked_same m k e (omega arith)) e f least h

  -- and of one test
  pub record_same : (m k size n : ℕ) {o p : ℕ} {b c : Bool} → o ≡ p → 2 ≤ size → o + size ≤ max_length → b ≡ c
      → or_else (opened s o (marked s o m k) size) (need b (refusal n o) fine) ≡ or_else (opened t p (marked t p m k) size) (need c (refusal n p) fine)
  record_same m k size n e least h f = or_same (marked_opened m k e refl least h) (λ _. need_same f (ap (refusal n) e) (λ _. refl))
