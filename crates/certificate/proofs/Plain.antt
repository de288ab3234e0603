-- Reading passes exactly where every line of the layout holds, and then it answers `fine`. Assumes nothing.
use Prim.Native.Nat.{ℕ, suc, ◌+◌, ◌-◌, ◌≤◌, ◌<◌}
use mathlib.Core.Bool.{Bool, true, false}
use mathlib.Core.List.{List}
use mathlib.Core.Path.{◌≡◌, refl, ◌∙◌}
use native.Mathlib.Omega.{arith}
use Rattle.certificate.specs.declared.Report.{Report}
use Rattle.certificate.specs.Checks.{refusal, fine, need, or_else}
use Rattle.certificate.specs.Layout.{turns_of, modes_of, mode_records_of, takes_turns, from_of, to_of, share_of, entries_of, cell_of, mode_of}
use Rattle.certificate.specs.Records.{header_fault, turn_ascends, share_total, entry_ascends, end_fault}
use Rattle.certificate.specs.Reading.{links_fault, turns_fault, signals_fault, modes_fault, grids_fault, arrivals_fault, entries_fault, reading_of}
use Rattle.certificate.specs.Facts.{NumbersUsed, Readable}
use Rattle.certificate.specs.Due.{GoalsAgree}
use Rattle.certificate.specs.Laws.{ReadingIsPlain, ReadingIsFine}
use Rattle.certificate.proofs.Tests.{need_both, need_pass, or_both, both_or, or_next, all_fine}
use Rattle.certificate.proofs.Says.{first_says}
use Rattle.certificate.proofs.Ascending.{pairs_ascend}
use Rattle.certificate.proofs.Shares.{totals_say}
use Rattle.certificate.proofs.Offsets.{starts, link_end, turn_end, signal_end, mode_end, grid_end, box_end, entry_end}
use Rattle.certificate.proofs.KindSizes.{records_most}
use Rattle.certificate.proofs.KindLaws.{turns_remember}
use Rattle.certificate.proofs.Goals.{one_agrees, one_used, all_agree}
use Rattle.certificate.proofs.Records.{header_says, link_says, turn_says, signal_says, mode_says, grid_says, box_says, entry_says, end_says}

-- a certificate with goals in turn has a record for every mode, and any other has one goal
every_record : (s : List ℕ) → takes_turns s ≡ true → mode_records_of s ≡ modes_of s
unfolding mode_records_of
every_record s turns = rw (turns_remember s turns)

each_agrees : (s : List ℕ) → ((m : ℕ) → m < mode_records_of s → GoalsAgree s m) → (m : ℕ) → m < modes_of s → GoalsAgree s m
each_agrees s h m lt = go (takes_turns s) refl
  where
    go : (b : Bool) → takes_turns s ≡ b → GoalsAgree s m
    go true e = h m (omega (arith, every_record s e))
    go false e = λ k _ _. one_agrees s e k m

last_used : (s : List ℕ) → 1 ≤ modes_of s → ((m : ℕ) → m < mode_records_of s → m + 1 ≡ modes_of s → NumbersUsed s) → NumbersUsed s
last_used s some h = go (takes_turns s) refl
  where
    go : (b : Bool) → takes_turns s ≡ b → NumbersUsed s
    go true e = h (modes_of s - 1) (omega (arith, every_record s e)) (omega arith)
    go false e = one_used s e some

module _ (s : List ℕ) where
  -- reading that finds nothing, record by record; each `or_both` takes one kind of record off the chain
  pub readable_of : (reading_of s).number ≡ 0 → Readable s
  unfolding reading_of links_fault turns_fault signals_fault modes_fault grids_fault arrivals_fault entries_fault turn_ascends entry_ascends share_total
  readable_of z =
      let hd = or_both _ _ z in
      let lk = or_both _ _ hd.1 in
      let tn = or_both _ _ lk.1 in
      let sg = or_both _ _ tn.1 in
      let md = or_both _ _ sg.1 in
      let gr = or_both _ _ md.1 in
      let ar = or_both _ _ gr.1 in
      let en = or_both _ _ ar.1 in
      let header = ((header_says s).0 hd.0).1 in
      let end = (end_says s).0 en.1 in
      record {
        header = header;
        link = λ l lt. ((link_says s l).0 (all_fine _ _ lk.0 l lt)).1;
        turn = λ t lt. ((turn_says s t).0 (all_fine _ _ tn.0 t lt)).1;
        turns_ascend = (pairs_ascend (from_of s) (to_of s) (turn_ascends s) refl (λ t. refl) (turns_of s)).0 (λ t lt. ((turn_says s t).0 (all_fine _ _ tn.0 t lt)).2);
        shares = (totals_say (from_of s) (share_of s) 100 (turns_of s)).0 (λ t lt. ((turn_says s t).0 (all_fine _ _ tn.0 t lt)).3);
        signal = λ g lt. ((signal_says s g).0 (all_fine _ _ sg.0 g lt)).1;
        mode = λ m lt. ((mode_says s m).0 (all_fine _ _ md.0 m lt)).1;
        goals_agree_fact = (all_agree s (modes_of s)).0 (each_agrees s (λ m lt. ((mode_says s m).0 (all_fine _ _ md.0 m lt)).2));
        numbers_used = last_used s header.modes_least (λ m lt. ((mode_says s m).0 (all_fine _ _ md.0 m lt)).3);
        grid = λ l lt. ((grid_says s l).0 (all_fine _ _ gr.0 l lt)).1;
        box = λ b lt. ((box_says s b).0 (all_fine _ _ ar.0 b lt)).1;
        entry = λ e lt. ((entry_says s e).0 (all_fine _ _ en.0 e lt)).1;
        entries_ascend = (pairs_ascend (cell_of s) (mode_of s) (entry_ascends s) refl (λ e. refl) (entries_of s)).0 (λ e lt. ((entry_says s e).0 (all_fine _ _ en.0 e lt)).2);
        passes_on_fact = λ e lt. ((entry_says s e).0 (all_fine _ _ en.0 e lt)).3;
        turns_on_fact = λ e lt. ((entry_says s e).0 (all_fine _ _ en.0 e lt)).4;
        end_mark = end.1;
        whole = end.0;
      }

  -- and the other way: each record ends before the whole does
  module _ (R : Readable s) where
    links_pass : (links_fault s).number ≡ 0
    unfolding links_fault
    links_pass = (first_says _ _).1 (λ l lt. (link_says s l).1 (omega (arith, starts s, link_end s l lt, R.whole), R.link l lt))

    turns_pass : (turns_fault s).number ≡ 0
    unfolding turns_fault turn_ascends share_total
    turns_pass =
        let above = (pairs_ascend (from_of s) (to_of s) (turn_ascends s) refl (λ t. refl) (turns_of s)).1 R.turns_ascend in
        let shares = (totals_say (from_of s) (share_of s) 100 (turns_of s)).1 R.shares in
        (first_says _ _).1 (λ t lt. (turn_says s t).1 (omega (arith, starts s, turn_end s t lt, R.whole), R.turn t lt, above t lt, shares t lt))

    signals_pass : (signals_fault s).number ≡ 0
    unfolding signals_fault
    signals_pass = (first_says _ _).1 (λ g lt. (signal_says s g).1 (omega (arith, starts s, signal_end s g lt, R.whole), R.signal g lt))

    modes_pass : (modes_fault s).number ≡ 0
    unfolding modes_fault
    modes_pass =
        let agree = (all_agree s (modes_of s)).1 R.goals_agree_fact in
        (first_says _ _).1 (λ m lt. (mode_says s m).1 (omega (arith, starts s, mode_end s m lt, R.whole), R.mode m lt, agree m (omega (arith, records_most s)), λ _. R.numbers_used))

    grids_pass : (grids_fault s).number ≡ 0
    unfolding grids_fault
    grids_pass = (first_says _ _).1 (λ l lt. (grid_says s l).1 (omega (arith, starts s, grid_end s l lt, R.whole), R.grid l lt))

    boxes_pass : (arrivals_fault s).number ≡ 0
    unfolding arrivals_fault
    boxes_pass = (first_says _ _).1 (λ b lt. (box_says s b).1 (omega (arith, starts s, box_end s b lt, R.whole), R.box b lt))

    entries_pass : (entries_fault s).number ≡ 0
    unfolding entries_fault entry_ascends
    entries_pass =
        let above = (pairs_ascend (cell_of s) (mode_of s) (entry_ascends s) refl (λ e. refl) (entries_of s)).1 R.entries_ascend in
        (first_says _ _).1 (λ e lt. (entry_says s e).1 (omega (arith, starts s, entry_end s e lt, R.whole), R.entry e lt, above e lt, R.passes_on_fact e lt, R.turns_on_fact e lt))

    pub of_readable : (reading_of s).number ≡ 0
    unfolding reading_of
    of_readable =
        both_or _ _ ((header_says s).1 (omega (arith, starts s, R.whole), R.header))
        (both_or _ _ links_pass
        (both_or _ _ turns_pass
        (both_or _ _ signals_pass
        (both_or _ _ modes_pass
        (both_or _ _ grids_pass
        (both_or _ _ boxes_pass
        (both_or _ _ entries_pass ((end_says s).1 (R.whole, R.end_mark)))))))))

pub reading_is_plain : ReadingIsPlain
reading_is_plain s = (readable_of s, of_readable s)

-- a chain that ends in `fine` answers `fine` where it passes
record Clean (r : Report) : Type 0 where
  is_fine : r.number ≡ 0 → r ≡ fine

or_clean : (f : Report) {g : Report} → Clean g → Clean (or_else f g)
or_clean f {g} h = record { is_fine = λ e. let p = or_both f g e in or_next f g p.0 ∙ h.is_fine p.1 }

need_clean : (b : Bool) (n o : ℕ) → Clean (need b (refusal (suc n) o) fine)
need_clean b n o = record { is_fine = λ e. need_pass b _ fine (need_both b _ fine (λ z. omega arith) e).0 }

end_clean : (s : List ℕ) → Clean (end_fault s)
unfolding end_fault
end_clean s = or_clean _ (need_clean _ 1 _)

reading_clean : (s : List ℕ) → Clean (reading_of s)
unfolding reading_of
reading_clean s =
    or_clean (header_fault s)
    (or_clean (links_fault s)
    (or_clean (turns_fault s)
    (or_clean (signals_fault s)
    (or_clean (modes_fault s)
    (or_clean (grids_fault s)
    (or_clean (arrivals_fault s)
    (or_clean (entries_fault s)
    (end_clean s))))))))

pub reading_is_fine : ReadingIsFine
reading_is_fine s = (reading_clean s).is_fine
