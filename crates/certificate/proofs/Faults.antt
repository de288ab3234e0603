-- What the tests of one record answer: `fine` where it passes, else the refusal of its fault (specs/Due.antt). Assumes nothing.
use Prim.Native.Nat.{ℕ, suc, ◌+◌, ◌-◌, ◌≤◌}
use mathlib.Core.List.{List}
use mathlib.Core.Bool.{Bool, true, false}
use mathlib.Core.Path.{◌≡◌, refl, sym, ap, ◌∙◌}
use mathlib.Core.Logic.Iff
use mathlib.Core.Logic.{◌↔◌, ◌⊎◌, inl, inr, ⊎_elim}
use native.Mathlib.Omega.{arith}
use borrow.Author.Tests.{leb-true, le-leb}
use lib.ListN.{length}
use Rattle.certificate.specs.declared.Report.{Report}
use Rattle.certificate.specs.Checks.{refusal, fine, need, or_else, first_bad}
use Rattle.certificate.specs.Layout.{from_of, to_of, grid_at, intervals_of, entry_at, cell_of, mode_of, end_size, end_at}
use Rattle.certificate.specs.Records.{header_marked, header_fault, link_fault, turn_ascends, share_total, turn_fault, signal_fault, mode_fault, cut_fault, count_ok, grid_fault, range_fault, arrival_fault, entry_ascends, names_exist, entry_fault, end_fault}
use Rattle.certificate.specs.Facts.{Mark, GridFacts, EntryFacts}
use Rattle.certificate.specs.Due.{Kind, HD, LK, TN, SG, MD, GR, AR, EN, ZZ, field_number, record_at, Marked, CountFacts, Whole, Line, TooShort, WrongMark}
use Rattle.certificate.proofs.Tests.{need_pass, or_next, or_stop, or_both, both_or, passes, all_fine, fine_all, first_bad_lem}
use Rattle.certificate.proofs.Says.{tests-say}
use Rattle.certificate.proofs.Ascending.{ascends_says}
use Rattle.certificate.proofs.Records.{header_marked_says, header_says, link_says, turn_says, signal_says, mode_says, grid_says, box_says, passes_says, entry_says, end_says}
use Rattle.certificate.proofs.Goals.{turns_say}
use Rattle.certificate.proofs.KindOrder.{placed}
use Rattle.certificate.proofs.FieldTests.{Test, fields, order, memory, goal, kind_of, test_number, Asks, Broken, none_earlier, names_earlier, order_earlier, memory_earlier}
use Rattle.certificate.proofs.Opening.{Opening, absent, wrong, short, opens, fails, opening, marked_opening}

-- the tests of record i of a kind
abbrev pub fault_of : List ℕ → Kind → ℕ → Report
fault_of s HD i = header_fault s
fault_of s LK i = link_fault s i
fault_of s TN i = turn_fault s i
fault_of s SG i = signal_fault s i
fault_of s MD i = mode_fault s i
fault_of s GR i = grid_fault s i
fault_of s AR i = arrival_fault s i
fault_of s EN i = entry_fault s i
fault_of s ZZ i = end_fault s

-- the place that is named where its line does not hold: its start, and after ZZ the byte that follows
abbrev pub line_place : List ℕ → Kind → ℕ → ℕ
line_place s HD i = 0
line_place s LK i = record_at s LK i
line_place s TN i = record_at s TN i
line_place s SG i = record_at s SG i
line_place s MD i = record_at s MD i
line_place s GR i = record_at s GR i
line_place s AR i = record_at s AR i
line_place s EN i = record_at s EN i
line_place s ZZ i = end_at s + end_size

-- it passes
abbrev pub Passes : List ℕ → Kind → ℕ → Type 0
Passes s k i = Whole s k i × Line s k i

-- it is at fault, with refusal r
pub data Fault (s : List ℕ) (k : Kind) (i : ℕ) (r : Report) : Type 0 where
  too_short : TooShort s k i → r ≡ refusal 1 (record_at s k i) → Fault s k i r
  wrong_mark : WrongMark s k i → r ≡ refusal 2 (record_at s k i) → Fault s k i r
  breaks : (t : Test) → kind_of t ≡ k → Broken s t i → r ≡ refusal (test_number t) (line_place s k i) → Fault s k i r

-- r is the answer to it
abbrev pub Answer : List ℕ → Kind → ℕ → Report → Type 0
Answer s k i r = (Passes s k i × (r ≡ fine)) ⊎ Fault s k i r

-- the tests of a record pass exactly where it does
count_says : (s : List ℕ) (l : ℕ) → (count_ok s l ≡ true) ↔ CountFacts s l
unfolding count_ok
count_says s l = simp tests-say (omega arith)

counted : {s : List ℕ} {l : ℕ} → GridFacts s l → CountFacts s l
counted g = record { least = g.count_least; most = g.count_most; product = g.product_most }

pub record_says : (s : List ℕ) (k : Kind) (i : ℕ) → ((fault_of s k i).number ≡ 0) ↔ Passes s k i
unfolding turn_ascends entry_ascends share_total
record_says s HD i = header_says s
record_says s LK i = link_says s i
record_says s TN i =
    let above = ascends_says (from_of s) (to_of s) (turn_ascends s) refl (λ t. refl) i in
    ((λ z. let h = (turn_says s i).0 z in (h.0, (h.1, above.0 h.2, h.3))), (λ p. (turn_says s i).1 (p.0, p.1.0, above.1 p.1.1, p.1.2)))
record_says s SG i = signal_says s i
record_says s MD i = ((λ z. let h = (mode_says s i).0 z in (h.0, (h.1, h.2, h.3))), (λ p. (mode_says s i).1 (p.0, p.1.0, p.1.1, p.1.2)))
record_says s GR i = (
  (λ z. let h = (grid_says s i).0 z in ((omega (arith, h.0, h.1.count_least), (λ _. h.0)), h.1)),
  (λ p. (grid_says s i).1 (p.0.1 (counted p.1), p.1)),
)
record_says s AR i = box_says s i
record_says s EN i =
    let above = ascends_says (cell_of s) (mode_of s) (entry_ascends s) refl (λ e. refl) i in
    ((λ z. let h = (entry_says s i).0 z in (h.0, (h.1, above.0 h.2, h.3, h.4))), (λ p. (entry_says s i).1 (p.0, p.1.0, above.1 p.1.1, p.1.2, p.1.3)))
record_says s ZZ i = ((λ z. let h = (end_says s).0 z in (omega (arith, h.0), (h.1, h.0))), (λ p. (end_says s).1 (p.1.1, p.1.0)))

-- a test that gives `fine` or r, and a loop of such tests
need_ends : (b : Bool) (r : Report) → (need b r fine ≡ fine) ⊎ (need b r fine ≡ r)
unfolding need
need_ends true r = inl refl
need_ends false r = inr refl

loop_ends : (n : ℕ) (f : ℕ → Report) (r : Report) → ((i : ℕ) → (f i ≡ fine) ⊎ (f i ≡ r)) → (first_bad n f ≡ fine) ⊎ (first_bad n f ≡ r)
loop_ends n f r h = ⊎_elim (λ z. inl (fine_all n f (all_fine n f z))) refuses (passes (first_bad n f))
  where
    refuses : ((first_bad n f).number ≡ 0 → ⊥) → (first_bad n f ≡ fine) ⊎ (first_bad n f ≡ r)
    refuses bad = let b = first_bad_lem n f bad in ⊎_elim (λ e. inl (sym b.answer ∙ e)) (λ e. inr (sym b.answer ∙ e)) (h b.at)

-- a refusal stops what follows
stops : {f : Report} (n o : ℕ) (g : Report) → f ≡ refusal (suc n) o → or_else f g ≡ refusal (suc n) o
stops n o g e = rw e (or_stop (refusal (suc n) o) g (λ z. omega arith))

module _ (s : List ℕ) (k : Kind) (i : ℕ) where
  -- a record that opens and is then tested further
  after_opening : {size : ℕ} {first next : Report} → Opening s (record_at s k i) (Marked s k i) size first
      → (Whole s k i → record_at s k i + size ≤ length s)
      → (first.number ≡ 0 → Marked s k i → record_at s k i + size ≤ length s → Answer s k i next)
      → Answer s k i (or_else first next)
  after_opening {size} {first} {next} (absent no-mark e) least further = inr (too_short (inl no-mark) (stops 0 _ next e))
  after_opening {size} {first} {next} (wrong present other e) least further = inr (wrong_mark (present, other) (stops 1 _ next e))
  after_opening {size} {first} {next} (short mark cut e) least further = inr (too_short (inr (mark, λ whole. cut (least whole))) (stops 0 _ next e))
  after_opening {size} {first} {next} (opens mark whole e) least further =
      let z : first.number ≡ 0 = ap (λ (r : Report). r.number) e in
      rw (or_next first next z) (further z mark whole)

  -- a record that is whole where it opens, and whose other tests give `fine` or the refusal of its line
  record_answer : {size : ℕ} {first next : Report} → Opening s (record_at s k i) (Marked s k i) size first
      → Whole s k i ↔ (record_at s k i + size ≤ length s)
      → ((or_else first next).number ≡ 0) ↔ Passes s k i
      → (Asks s (fields k) i → Line s k i)
      → (next ≡ fine) ⊎ (next ≡ refusal (field_number k) (line_place s k i))
      → Answer s k i (or_else first next)
  record_answer {size} {first} {next} begins whole says asked ends = after_opening begins whole.0 further
    where
      not_zero : next ≡ refusal (field_number k) (line_place s k i) → next.number ≡ 0 → ⊥
      not_zero e z = let same : next.number ≡ field_number k = ap (λ (r : Report). r.number) e in omega (arith, (placed k).least)

      further : first.number ≡ 0 → Marked s k i → record_at s k i + size ≤ length s → Answer s k i next
      further z mark long =
          ⊎_elim
          (λ (e : next ≡ fine). inl (says.0 (both_or first next z (ap (λ (r : Report). r.number) e)), e))
          (λ (e : next ≡ refusal (field_number k) (line_place s k i)).
          inr (breaks (fields k) refl (mark, whole.1 long, none_earlier s i k, λ line. not_zero e (or_both first next (says.1 (whole.1 long, asked line))).1) e))
          ends

-- a test goes one way or the other
by_need : (P : Report → Type 0) (b : Bool) {bad next : Report} → (b ≡ false → P bad) → (b ≡ true → P next) → P (need b bad next)
unfolding need
by_need P true p q = q refl
by_need P false p q = p refl

-- GR: the count is tested before the cuts must be present
grid_answer : (s : List ℕ) (l : ℕ) → Answer s GR l (grid_fault s l)
unfolding grid_fault cut_fault
grid_answer s l =
    after_opening s GR l (marked_opening s _ _ _ _) (λ whole. whole.0) λ z mark three.
    by_need (Answer s GR l) _
    (λ bad. inr (breaks (fields GR) refl (mark, (three, λ count. absurd (bad_count bad count)), none_earlier s l GR, λ line. bad_count bad (counted line)) refl)) λ count.
    by_need (Answer s GR l) _
    (λ cut. inr (too_short (inr (mark, λ whole. fails (le-leb _ _) cut (whole.1 ((count_says s l).0 count)))) refl)) λ long.
    let tested : grid_fault s l ≡ first_bad (intervals_of s l - 1) (cut_fault s l) = or_next _ _ z ∙ need_pass _ _ _ count ∙ need_pass _ _ _ long in
    ⊎_elim
    (λ (e : first_bad (intervals_of s l - 1) (cut_fault s l) ≡ fine). inl ((record_says s GR l).0 (ap (λ (r : Report). r.number) (tested ∙ e)), e))
    (λ (e : first_bad (intervals_of s l - 1) (cut_fault s l) ≡ refusal 7 (grid_at s l)).
    let whole : Whole s GR l = (three, λ _. leb-true _ _ long) in
    inr (breaks (fields GR) refl (mark, whole, none_earlier s l GR, λ line. not_seven (rw (tested ∙ e) at ((record_says s GR l).1 (whole, line)))) e))
    (loop_ends _ _ _ (λ i. need_ends _ _))
  where
    bad_count : count_ok s l ≡ false → CountFacts s l → ⊥
    bad_count = fails (count_says s l).1

    not_seven : ◌≡◌ {A = ℕ} 7 0 → ⊥
    not_seven e = omega arith

-- EN: the names are tested before the order, the order before what the entry passes on, and its goal number last
names_say : (s : List ℕ) (e : ℕ) → Mark s (entry_at s e) 69 78 → (names_exist s e ≡ true) ↔ EntryFacts s e
unfolding names_exist
names_say s e mark = simp tests-say (omega arith)

entry_answer : (s : List ℕ) (e : ℕ) → Answer s EN e (entry_fault s e)
unfolding entry_fault entry_ascends
entry_answer s e =
    after_opening s EN e (marked_opening s _ _ _ _) (λ whole. whole) λ z mark whole.
    by_need (Answer s EN e) _
    (λ bad. inr (breaks (fields EN) refl (mark, whole, none_earlier s e EN, fails (names_say s e mark).1 bad) refl)) λ exist.
    let names = (names_say s e mark).0 exist in
    let above = ascends_says (cell_of s) (mode_of s) (entry_ascends s) refl (λ e. refl) e in
    by_need (Answer s EN e) _
    (λ bad. inr (breaks order refl (mark, whole, names_earlier s e names, fails above.1 bad) refl)) λ ascends.
    by_need (Answer s EN e) _
    (λ bad. inr (breaks memory refl (mark, whole, order_earlier s e names (above.0 ascends), fails (passes_says s e).1 bad) refl)) λ on.
    by_need (Answer s EN e) _
    (λ bad. inr (breaks goal refl (mark, whole, memory_earlier s e names (above.0 ascends) ((passes_says s e).0 on), fails (turns_say s e).1 bad) refl)) λ turn.
    inl ((whole, (names, above.0 ascends, (passes_says s e).0 on, (turns_say s e).0 turn)), refl)

pub answer : (s : List ℕ) (k : Kind) (i : ℕ) → Answer s k i (fault_of s k i)
unfolding header_fault link_fault turn_fault signal_fault mode_fault arrival_fault range_fault end_fault
answer s HD i = record_answer s HD i (opening s _ _ (header_marked s) (header_marked_says s)) Iff.rfl (record_says s HD i) (λ line. line) (need_ends _ _)
answer s LK i = record_answer s LK i (marked_opening s _ _ _ _) Iff.rfl (record_says s LK i) (λ line. line) (need_ends _ _)
answer s TN i = record_answer s TN i (marked_opening s _ _ _ _) Iff.rfl (record_says s TN i) (λ line. line) (need_ends _ _)
answer s SG i = record_answer s SG i (marked_opening s _ _ _ _) Iff.rfl (record_says s SG i) (λ line. line) (need_ends _ _)
answer s MD i = record_answer s MD i (marked_opening s _ _ _ _) Iff.rfl (record_says s MD i) (λ line. line) (need_ends _ _)
answer s GR i = grid_answer s i
answer s AR i = record_answer s AR i (marked_opening s _ _ _ _) Iff.rfl (record_says s AR i) (λ line. line) (loop_ends _ _ _ (λ l. need_ends _ _))
answer s EN i = entry_answer s i
answer s ZZ i = record_answer s ZZ i (marked_opening s _ _ _ _) Iff.rfl (record_says s ZZ i) (λ line. line) (need_ends _ _)
