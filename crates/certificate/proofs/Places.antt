-- The place of a refusal of reading is at most the length: the record before it is whole. Assumes nothing.
use Prim.Native.Nat.{ℕ, zero, suc, ◌≤◌, ◌<◌}
use mathlib.Core.List.{List}
use mathlib.Core.Bool.{Bool, true, false}
use mathlib.Core.Path.{◌≡◌, refl, sym}
use mathlib.Core.Logic.{⊎_elim}
use native.Mathlib.Nat.{mul-suc}
use native.Mathlib.Omega.{arith}
use lib.ListN.{length}
use Rattle.certificate.specs.declared.Report.{Report}
use Rattle.certificate.specs.Checks.{refusal, fine, need, or_else, first_bad, opened}
use Rattle.certificate.specs.Layout.{header_size, end_size, links_of, turns_of, signals_of, boxes_of, entries_of, link_at, turns_start, turn_at, signals_start, signal_at, mode_records_of, modes_start, mode_at, grid_start, grid_at, arrivals_start, arrival_at, entries_start, entry_at, end_at}
use Rattle.certificate.specs.Records.{header_fault, link_fault, turn_fault, signal_fault, mode_fault, cut_fault, grid_fault, range_fault, arrival_fault, entry_fault, end_fault}
use Rattle.certificate.specs.Reading.{links_fault, turns_fault, signals_fault, modes_fault, grids_fault, arrivals_fault, entries_fault, reading_of}
use Rattle.certificate.specs.Laws.{PlaceFits}
use Rattle.certificate.proofs.Tests.{or_next, or_stop, passes, all_fine, fine_all, first_bad_lem}
use Rattle.certificate.proofs.Says.{opened_says}
use Rattle.certificate.proofs.Records.{header_says, link_says, turn_says, signal_says, mode_says, grid_says, box_says, entry_says}

-- place A is at most n, and there is no place B
record Fits (n : ℕ) (r : Report) : Type 0 where
  place : r.a ≤ n
  alone : r.b ≡ 0

module _ (n : ℕ) where
  need_fits : {bad next : Report} (b : Bool) → Fits n bad → Fits n next → Fits n (need b bad next)
  unfolding need
  need_fits true p q = q
  need_fits false p q = p

  or_fits : {f g : Report} → Fits n f → (f.number ≡ 0 → Fits n g) → Fits n (or_else f g)
  or_fits {f} {g} p q = ⊎_elim (λ z. rw (or_next f g z) (q z)) (λ bad. rw (or_stop f g bad) p) (passes f)

  refusal_fits : (k o : ℕ) → o ≤ n → Fits n (refusal k o)
  refusal_fits k o h = record { place = h; alone = refl }

  test_fits : (b : Bool) (k o : ℕ) → o ≤ n → Fits n (need b (refusal k o) fine)
  test_fits b k o h = need_fits b (refusal_fits k o h) (refusal_fits 0 0 (omega arith))

  -- a loop whose tests have fitting places once those before them pass
  first_fits : (m : ℕ) (f : ℕ → Report) → ((k : ℕ) → k < m → ((j : ℕ) → j < k → (f j).number ≡ 0) → Fits n (f k)) → Fits n (first_bad m f)
  first_fits m f h = ⊎_elim (λ z. rw (fine_all m f (all_fine m f z)) (refusal_fits 0 0 (omega arith))) refuses (passes (first_bad m f))
    where
      refuses : ((first_bad m f).number ≡ 0 → ⊥) → Fits n (first_bad m f)
      refuses bad = let b = first_bad_lem m f bad in rw (sym b.answer) (h b.at b.inside b.before)

  -- tests whose places fit, after which the offset o fits too
  record Stretch (f : Report) (o : ℕ) : Type 0 where
    fits : Fits n f
    after : f.number ≡ 0 → o ≤ n

  stretch_then : {f g : Report} {o : ℕ} → Stretch f o → (o ≤ n → Fits n g) → Fits n (or_else f g)
  stretch_then p q = or_fits p.fits (λ z. q (p.after z))

  -- records one after another: each starts within the length once the one before it passes
  records_fit : (m : ℕ) (f : ℕ → Report) (at : ℕ → ℕ) → at 0 ≤ n → ((k : ℕ) → (f k).number ≡ 0 → at (suc k) ≤ n)
      → ((k : ℕ) → at k ≤ n → Fits n (f k)) → Stretch (first_bad m f) (at m)
  records_fit m f at start next here = record { fits = first_fits m f (λ k lt before. here k (reached k before)); after = λ z. reached m (all_fine m f z) }
    where
      reached : (k : ℕ) → ((j : ℕ) → j < k → (f j).number ≡ 0) → at k ≤ n
      reached zero before = start
      reached (suc k) before = next k (before k (omega arith))

module _ (s : List ℕ) where
  opened_fits : (o : ℕ) (mark : Bool) (size : ℕ) → o ≤ length s → Fits (length s) (opened s o mark size)
  unfolding opened
  opened_fits o mark size h =
      need_fits _ _ (refusal_fits _ 1 o h) (need_fits _ _ (refusal_fits _ 2 o h) (test_fits _ _ 1 o h))

  -- a record at o that is opened and then tested
  record_fits : (o : ℕ) (mark : Bool) (size : ℕ) (b : Bool) (number : ℕ) → o ≤ length s → Fits (length s) (or_else (opened s o mark size) (need b (refusal number o) fine))
  record_fits o mark size b number h = or_fits _ (opened_fits o mark size h) (λ _. test_fits _ b number o h)

  grid_fits : (l : ℕ) → grid_at s l ≤ length s → Fits (length s) (grid_fault s l)
  unfolding grid_fault cut_fault
  grid_fits l h =
      or_fits _ (opened_fits _ _ _ h) (λ _.
      need_fits _ _ (refusal_fits _ 7 _ h)
      (need_fits _ _ (refusal_fits _ 1 _ h)
      (first_fits _ _ _ (λ i _ _. test_fits _ _ 7 _ h))))

  box_fits : (b : ℕ) → arrival_at s b ≤ length s → Fits (length s) (arrival_fault s b)
  unfolding arrival_fault range_fault
  box_fits b h = or_fits _ (opened_fits _ _ _ h) (λ _. first_fits _ _ _ (λ l _ _. test_fits _ _ 8 _ h))

  header_fits : Stretch (length s) (header_fault s) header_size
  unfolding header_fault
  header_fits = record { fits = record_fits 0 _ _ _ _ (omega arith); after = λ z. omega (arith, ((header_says s).0 z).0) }

  links_fit : header_size ≤ length s → Stretch (length s) (links_fault s) (turns_start s)
  unfolding links_fault link_fault turns_start
  links_fit h =
      records_fit _ (links_of s) (link_fault s) (link_at s) (omega arith) (λ l z. rw mul-suc (omega (arith, ((link_says s l).0 z).0))) (λ l. record_fits (link_at s l) _ _ _ _)

  turns_fit : turns_start s ≤ length s → Stretch (length s) (turns_fault s) (signals_start s)
  unfolding turns_fault turn_fault signals_start
  turns_fit h =
      records_fit _ (turns_of s) (turn_fault s) (turn_at s) (omega arith) (λ t z. omega (arith, ((turn_says s t).0 z).0)) (λ t. record_fits (turn_at s t) _ _ _ _)

  signals_fit : signals_start s ≤ length s → Stretch (length s) (signals_fault s) (modes_start s)
  unfolding signals_fault signal_fault modes_start
  signals_fit h =
      records_fit _ (signals_of s) (signal_fault s) (signal_at s) (omega arith) (λ g z. omega (arith, ((signal_says s g).0 z).0)) (λ g. record_fits (signal_at s g) _ _ _ _)

  modes_fit : modes_start s ≤ length s → Stretch (length s) (modes_fault s) (grid_start s)
  unfolding modes_fault mode_fault grid_start
  modes_fit h =
      records_fit _ (mode_records_of s) (mode_fault s) (mode_at s) (omega arith) (λ m z. rw mul-suc (omega (arith, ((mode_says s m).0 z).0))) (λ m. record_fits (mode_at s m) _ _ _ _)

  grids_fit : grid_start s ≤ length s → Stretch (length s) (grids_fault s) (arrivals_start s)
  unfolding grids_fault arrivals_start grid_at
  grids_fit h = records_fit _ (links_of s) (grid_fault s) (grid_at s) h (λ l z. ((grid_says s l).0 z).0) grid_fits

  boxes_fit : arrivals_start s ≤ length s → Stretch (length s) (arrivals_fault s) (entries_start s)
  unfolding arrivals_fault entries_start
  boxes_fit h =
      records_fit _ (boxes_of s) (arrival_fault s) (arrival_at s) (omega arith) (λ b z. rw mul-suc (omega (arith, ((box_says s b).0 z).0))) box_fits

  entries_fit : entries_start s ≤ length s → Stretch (length s) (entries_fault s) (end_at s)
  unfolding entries_fault entry_fault end_at
  entries_fit h =
      records_fit _ (entries_of s) (entry_fault s) (entry_at s) (omega arith) (λ e z. omega (arith, ((entry_says s e).0 z).0))
      (λ e h. or_fits _ (opened_fits _ _ _ h) (λ _. need_fits _ _ (refusal_fits _ _ _ h) (need_fits _ _ (refusal_fits _ _ _ h) (need_fits _ _ (refusal_fits _ _ _ h) (test_fits _ _ _ _ h)))))

  end_fits : end_at s ≤ length s → Fits (length s) (end_fault s)
  unfolding end_fault
  end_fits h = or_fits _ (opened_fits _ _ _ h) (λ z. test_fits _ _ 2 _ ((opened_says s (end_at s) _ end_size refl).0 z).0)

  reading_fits : Fits (length s) (reading_of s)
  unfolding reading_of
  reading_fits =
      stretch_then _ header_fits (λ h.
      stretch_then _ (links_fit h) (λ h.
      stretch_then _ (turns_fit h) (λ h.
      stretch_then _ (signals_fit h) (λ h.
      stretch_then _ (modes_fit h) (λ h.
      stretch_then _ (grids_fit h) (λ h.
      stretch_then _ (boxes_fit h) (λ h.
      stretch_then _ (entries_fit h) end_fits)))))))

pub place_fits : PlaceFits
place_fits s = let f = reading_fits s in (f.place, f.alone)
