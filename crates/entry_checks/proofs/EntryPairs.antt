-- The record of an entry as reading tests it, and the order of the entries as reading carries it from one to the next. Assumes nothing.
use Prim.Native.Nat.{ℕ, zero, suc, ◌+◌, ◌*◌, ◌-◌, ◌%◌, ◌≤◌, ◌<◌}
use mathlib.Core.Bool.{Bool, true, false, not, ◌&&◌, ◌||◌, false≢true}
use mathlib.Core.List.{List}
use mathlib.Core.Path.{◌≡◌, refl, sym, ◌∙◌}
use native.Mathlib.Omega.{arith}
use borrow.Author.Tests.{ltb-true, ltb-false, eqb-true, eqb-false, lt-ltb, le-ltb, le-leb, lt-leb, not-true, not-false}
use lib.Dec.{ltb, leb, eqb}
use lib.ListN.{length}
use Rattle.certificate.specs.declared.Report.{Report}
use Rattle.certificate.specs.Loops.{pick}
use Rattle.certificate.specs.Checks.{refusal, fine, need, or_else, first_bad, marked, opened}
use Rattle.certificate.specs.Layout.{entry_size, entry_at, cell_of, mode_of, signal_of, next_mode_of, rank_of, remembers, takes_turns, shown_before, goal_number_of, greatest_goal, next_goal}
use Rattle.certificate.specs.Records.{pair_below, names_exist, entry_ascends, passes_on, turns_on, entry_fault}
use Rattle.entry_checks.specs.Keys.{IsKey, KeyBefore, Ordered}
use Rattle.certificate.proofs.Tests.{and_both, need_pass, need_fail, or_next, fine_all}
use Rattle.certificate.proofs.Says.{opened-fine}
use Rattle.certificate.proofs.Records.{entry_says}
use Rattle.certificate.proofs.KindLaws.{turns_remember, one_goal_layout}

-- two pairs as numbers compare as the pairs do
pair_key : (a b c d : ℕ) → b < 256 → d < 256 → leb (a * 256 + b + 1) (c * 256 + d) ≡ pair_below a b c d
unfolding pair_below
pair_key a b c d p q = go (ltb a c) refl (eqb a c) refl (ltb b d) refl
  where
    go : (x : Bool) → ltb a c ≡ x → (y : Bool) → eqb a c ≡ y → (z : Bool) → ltb b d ≡ z → leb (a * 256 + b + 1) (c * 256 + d) ≡ (x || (y && z))
    go true e y f z g = let h = ltb-true a c e in le-leb (a * 256 + b + 1) (c * 256 + d) (omega arith)
    go false e true f true g = let h = eqb-true a c f in let k = ltb-true b d g in le-leb (a * 256 + b + 1) (c * 256 + d) (omega arith)
    go false e true f false g = let h = eqb-true a c f in let k = ltb-false b d g in lt-leb (a * 256 + b + 1) (c * 256 + d) (omega arith)
    go false e false f z g = let h = ltb-false a c e in let k = eqb-false a c f in lt-leb (a * 256 + b + 1) (c * 256 + d) (omega arith)

module _ (s : List ℕ) where
  -- the tests of an entry by its key
  pub key_ascends : (e : ℕ) {least key : ℕ} → IsKey s e key → KeyBefore s e least → leb least key ≡ entry_ascends s e
  unfolding entry_ascends
  key_ascends zero {least} {key} K B = rw (B.none refl) (le-leb 0 key (omega arith))
  key_ascends (suc e) {least} {key} K B =
      let n : suc e - 1 ≡ e = omega arith in
      let last : IsKey s e (least - 1) = rw n at (B.after (omega arith)) in
      let above : least ≡ cell_of s e * 256 + mode_of s e + 1 = omega (arith, B.some (omega arith), last.is) in
      rw (above, K.is) (pair_key (cell_of s e) (mode_of s e) (cell_of s (suc e)) (mode_of s (suc e)) last.mode_most K.mode_most)

  pub key_mode : (e : ℕ) {key : ℕ} → IsKey s e key → key % 256 ≡ mode_of s e
  key_mode e K = omega (arith, K.is, K.mode_most)

  pub key_cell : (e cells : ℕ) {key : ℕ} → IsKey s e key → ltb key (cells * 256) ≡ ltb (cell_of s e) cells
  key_cell e cells {key} K = go (ltb (cell_of s e) cells) refl
    where
      go : (b : Bool) → ltb (cell_of s e) cells ≡ b → ltb key (cells * 256) ≡ b
      go true p = let h = ltb-true (cell_of s e) cells p in lt-ltb key (cells * 256) (omega (arith, K.is, K.mode_most))
      go false p = let h = ltb-false (cell_of s e) cells p in le-ltb key (cells * 256) (omega (arith, K.is))

  pub key_none : KeyBefore s 0 0
  key_none = record { none = λ e. refl; some = λ lt. absurd (omega arith); after = λ lt. absurd (omega arith) }

  pub key_next : (e : ℕ) {key : ℕ} → IsKey s e key → KeyBefore s (e + 1) (key + 1)
  key_next e {key} K =
      let n : e + 1 - 1 ≡ e = omega arith in
      let m : key + 1 - 1 ≡ key = omega arith in
      record { none = λ z. absurd (omega arith); some = λ lt. omega arith; after = λ lt. rw (n, m) K }

  -- the test of what it passes on, as the code makes it
  pub passes_free : (e : ℕ) {memory : Bool} → memory ≡ remembers s → not memory ≡ true → true ≡ passes_on s e
  unfolding passes_on
  passes_free e {memory} p q = rw (← p, not-true memory q)

  pub turns_free : (e : ℕ) {turns : Bool} → turns ≡ takes_turns s → not turns ≡ true → true ≡ turns_on s e
  turns_free e {turns} p q = sym ((one_goal_layout s (sym p ∙ not-true turns q)).turns_on_fact e)

  pub passes_held : (e : ℕ) {memory : Bool} {t : List ℕ} {next shown own : ℕ} → memory ≡ remembers s → not memory ≡ false → t ≡ s
      → next ≡ next_mode_of s e → shown ≡ shown_before t next → own ≡ signal_of s e → eqb shown own ≡ passes_on s e
  unfolding passes_on
  passes_held e {memory} p q same n h k = rw (← p, not-false memory q, h, same, n, k)

  pub turns_held : (e : ℕ) {t : List ℕ} {mode following own next greatest rank due : ℕ} → t ≡ s → mode ≡ mode_of s e → own ≡ goal_number_of t mode
      → following ≡ next_mode_of s e → next ≡ goal_number_of t following → rank ≡ rank_of s e → greatest ≡ greatest_goal s
      → due ≡ pick (eqb rank 0) (pick (eqb own greatest) 0 (own + 1)) own → eqb next due ≡ turns_on s e
  unfolding turns_on next_goal
  turns_held e same m p f q r g d = rw (d, q, p, g, r, f, m, same)

  -- the tests of an entry one after another, as far as they were made
  pub entry_tests : (e : ℕ) {o : ℕ} {mark named up on turn : Bool} → o ≡ entry_at s e → mark ≡ marked s o 69 78 → named ≡ names_exist s e → up ≡ entry_ascends s e
      → on ≡ passes_on s e → turn ≡ turns_on s e
      → or_else (opened s o mark entry_size) (need named (refusal 9 o) (need up (refusal 22 o) (need on (refusal 23 o) (need turn (refusal 24 o) fine)))) ≡ entry_fault s e
  unfolding entry_fault
  entry_tests e here bears p u k j = rw (bears, p, u, k, j, here)

  -- an entry that is there whole, with its mark, and passes its tests up to the order
  pub entry_ordered : (e : ℕ) {o : ℕ} {mark named up : Bool} → o ≡ entry_at s e → o + entry_size ≤ length s → mark ≡ marked s o 69 78
      → named ≡ names_exist s e → up ≡ entry_ascends s e → (mark && (named && up)) ≡ true → Ordered s e
  unfolding entry_fault
  entry_ordered e {o} {mark} {named} {up} here whole p q u holds =
      let a = and_both mark (named && up) holds in
      let b = and_both named up a.1 in
      let m : marked s o 69 78 ≡ true = sym p ∙ a.0 in
      let k : names_exist s e ≡ true = sym q ∙ b.0 in
      let v : entry_ascends s e ≡ true = sym u ∙ b.1 in
      let opening : opened s o (marked s o 69 78) entry_size ≡ fine = opened-fine s o _ entry_size (omega arith) whole m in
      record {
        whole = rw (← here) whole;
        rest = rw (← here, opening, need_pass (names_exist s e) (refusal 9 o) _ k, need_pass (entry_ascends s e) (refusal 22 o) _ v, or_next fine (need (passes_on s e) (refusal 23 o) (need (turns_on s e) (refusal 24 o) fine)) refl);
      }

  -- such an entry has 23 where it does not pass on, then 24 where its goal number is another, and else passes
  module _ (e : ℕ) (O : Ordered s e) {on : Bool} (p : on ≡ passes_on s e) where
    pub ordered_bad : {o : ℕ} {r : Report} → o ≡ entry_at s e → on ≡ false → r ≡ refusal 23 o → r ≡ entry_fault s e
    ordered_bad here q h = h ∙ rw here (sym (O.rest ∙ need_fail _ _ _ (sym p ∙ q)))

    module _ {turn : Bool} (u : turn ≡ turns_on s e) where
      pub remembered_bad : {o : ℕ} {r : Report} → o ≡ entry_at s e → on ≡ true → turn ≡ false → r ≡ refusal 24 o → r ≡ entry_fault s e
      remembered_bad here q z h = h ∙ rw here (sym (O.rest ∙ need_pass _ _ _ (sym p ∙ q) ∙ need_fail _ _ _ (sym u ∙ z)))

      pub ordered_fine : on ≡ true → turn ≡ true → fine ≡ entry_fault s e
      ordered_fine q z = sym (O.rest ∙ need_pass _ _ _ (sym p ∙ q) ∙ need_pass _ _ _ (sym u ∙ z))

  -- in HD all of them pass: where nothing is remembered, no goals are in turn either
  no_turns : remembers s ≡ false → takes_turns s ≡ false
  no_turns none = go (takes_turns s) refl
    where
      go : (b : Bool) → takes_turns s ≡ b → takes_turns s ≡ false
      go true e = absurd (false≢true (sym none ∙ turns_remember s e))
      go false e = e

  pub plain_fine : (n : ℕ) {memory : Bool} → ((e : ℕ) → e < n → Ordered s e) → memory ≡ remembers s → memory ≡ false → fine ≡ first_bad n (entry_fault s)
  plain_fine n all m none =
      let one = one_goal_layout s (no_turns (sym m ∙ none)) in
      sym (fine_all n (entry_fault s) (λ e lt. rw (← ordered_fine e (all e lt) (passes_free e m (rw none)) (sym (one.turns_on_fact e)) refl refl)))

  -- an entry that passes is there whole
  pub entry_within : (e : ℕ) {f : Report} → f ≡ entry_fault s e → f.number ≡ 0 → entry_at s e + entry_size ≤ length s
  entry_within e p z = ((entry_says s e).0 (rw (← p) z)).0
