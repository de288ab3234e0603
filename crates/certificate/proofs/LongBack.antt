-- The records GR, AR, EN and ZZ are tested alike in two byte strings that agree up to the greatest length. Assumes nothing.
use Prim.Native.Nat.{ℕ, zero, suc, ◌+◌, ◌*◌, ◌≤◌, ◌<◌}
use mathlib.Core.List.{List}
use mathlib.Core.Bool.{true}
use mathlib.Core.Path.{◌≡◌, refl, sym, ap, ◌∙◌}
use native.Mathlib.Nat.{mul-le-mul_right}
use native.Mathlib.Omega.{arith}
use borrow.Author.Tests.{leb-true, ltb-true, lt-leb}
use lib.ListN.{length}
use Rattle.certificate.specs.Octets.{byte_at}
use Rattle.certificate.specs.Checks.{refusal}
use Rattle.certificate.specs.Layout.{max_links, max_boxes, max_entries, max_intervals, grid_size, arrival_size, entry_size, end_size, links_of, modes_of, boxes_of, entries_of, cap_of, grid_start, grid_at, intervals_of, cut_of, product_of, cells_of, arrivals_start, arrival_at, low_of, high_of, entries_start, entry_at, cell_of, mode_of, signal_of, next_mode_of, rank_of, end_at}
use Rattle.certificate.specs.Records.{cut_before, cut_ok, cut_fault, count_ok, grid_fault, range_ok, range_fault, arrival_fault, names_exist, entry_ascends, passes_on, turns_on, entry_fault, end_fault}
use Rattle.certificate.proofs.Tests.{also_both, need_both, or_both}
use Rattle.certificate.proofs.Agreement.{or_same, need_same, loop_same, Agree, byte_same, u16_same, present, marked_opened}
use Rattle.certificate.proofs.LongFront.{Counts, links_same, signals_same, modes_same, boxes_same, entries_same, grids_start_bound, remembers_same, link_u16, shown_same, number_same, next_same, grid_start_lem, grid_most}

-- a grid record that passes has at most 15 intervals
intervals_most : (s : List ℕ) (l : ℕ) → count_ok s l ≡ true → intervals_of s l ≤ max_intervals
unfolding count_ok
intervals_most s l e = leb-true _ _ (also_both _ _ (also_both _ _ e).0).1

pub grid_passes : (s : List ℕ) (l : ℕ) → (grid_fault s l).number ≡ 0 → intervals_of s l ≤ max_intervals
unfolding grid_fault
grid_passes s l z = intervals_most s l (need_both _ _ _ (λ e. omega arith) (or_both _ _ z).1).0

-- the greatest offsets at which AR, EN and ZZ may start
abbrev arrivals_start_bound : ℕ
arrivals_start_bound = grids_start_bound + max_links * grid_size max_intervals

abbrev entries_start_bound : ℕ
entries_start_bound = arrivals_start_bound + max_boxes * arrival_size max_links

abbrev stop_bound : ℕ
stop_bound = entries_start_bound + max_entries * entry_size

module _ {s t : List ℕ} (A : Agree s t) (C : Counts s) where
  -- the grid record of link l, where each before it has at most 15 intervals
  module _ (l : ℕ) (inside : l ≤ links_of s) (few : (j : ℕ) → j < l → intervals_of s j ≤ max_intervals) where
    grid_below : (k : ℕ) → k ≤ l → grid_at s k ≤ grid_start s + grid_size max_intervals * k
    unfolding grid_at
    grid_below zero h = omega arith
    grid_below (suc k) h = omega (arith, grid_below k (omega arith), few k h)

    count_same : (k : ℕ) → k ≤ l → grid_at s k ≡ grid_at t k → intervals_of s k ≡ intervals_of t k
    count_same k h e = byte_same A (omega arith) (omega (arith, grid_below k h, grid_most A C, C.links))

    grid_place_lem : (k : ℕ) → k ≤ l → grid_at s k ≡ grid_at t k
    unfolding grid_at
    grid_place_lem zero h = grid_start_lem A C
    grid_place_lem (suc k) h = let e = grid_place_lem k (omega arith) in omega (arith, count_same k (omega arith) e)

    product_same : (k : ℕ) → k ≤ l → product_of s k ≡ product_of t k
    unfolding product_of
    product_same zero h = refl
    product_same (suc k) h = cc (product_same k (omega arith), count_same k (omega arith) (grid_place_lem k (omega arith)))

    cut_of_lem : (i : ℕ) → i < max_intervals → cut_of s l i ≡ cut_of t l i
    cut_of_lem i h = u16_same A (omega (arith, grid_place_lem l (omega arith))) (omega (arith, grid_below l (omega arith), grid_most A C, C.links))

    cut_before_lem : (i : ℕ) → i < max_intervals → cut_before s l i ≡ cut_before t l i
    unfolding cut_before
    cut_before_lem zero h = refl
    cut_before_lem (suc i) h = cut_of_lem i (omega arith)

    cut_same : l < links_of s → (i : ℕ) → i < max_intervals → cut_fault s l i ≡ cut_fault t l i
    unfolding cut_fault cut_ok
    cut_same lt i h =
        let cap : cap_of s l ≡ cap_of t l = link_u16 A C 4 (omega arith) l lt in
        need_same (cc (cut_of_lem i h, cut_before_lem i h)) (ap (refusal 7) (grid_place_lem l (omega arith))) (λ _. refl)

    pub grid_same : l < links_of s → grid_fault s l ≡ grid_fault t l
    unfolding grid_fault count_ok
    grid_same lt =
        let e : grid_at s l ≡ grid_at t l = grid_place_lem l (omega arith) in
        let b : grid_at s l ≤ grid_start s + grid_size max_intervals * l = grid_below l (omega arith) in
        let c : intervals_of s l ≡ intervals_of t l = count_same l (omega arith) e in
        or_same (marked_opened A _ _ e refl (omega arith) (omega (arith, grid_most A C, C.links)))
        (λ _. need_same (count_ok_lem c) (ap (refusal 7) e)
        (λ ok. let few' : intervals_of s l ≤ max_intervals = intervals_most s l ok in
        need_same (present A (omega arith) (omega (arith, grid_most A C, C.links))) (ap (refusal 1) e)
        (λ _. loop_same (omega arith) (λ i h _. cut_same lt i (omega arith)))))
      where
        count_ok_lem : intervals_of s l ≡ intervals_of t l → count_ok s l ≡ count_ok t l
        count_ok_lem c = cc (product_same l (omega arith))

  -- the records behind the grid, where all grid records pass
  module _ (few : (j : ℕ) → j < links_of s → intervals_of s j ≤ max_intervals) where
    -- where the arrival boxes start, and at most where
    arrivals_start_lem : arrivals_start s ≡ arrivals_start t
    unfolding arrivals_start
    arrivals_start_lem = grid_place_lem (links_of s) (omega arith) few (links_of s) (omega arith) ∙ ap (grid_at t) (links_same A)

    arrivals_most : arrivals_start s ≤ arrivals_start_bound
    unfolding arrivals_start
    arrivals_most = omega (arith, grid_below (links_of s) (omega arith) few (links_of s) (omega arith), grid_most A C, C.links)

    arrival_place : (b : ℕ) → arrival_at s b ≡ arrival_at t b
    arrival_place b = cc (arrivals_start_lem, links_same A)

    arrival_below : (b : ℕ) → arrival_at s b ≤ arrivals_start_bound + arrival_size max_links * b
    arrival_below b =
        let size : arrival_size (links_of s) * b ≤ arrival_size max_links * b = mul-le-mul_right b (omega (arith, C.links)) in
        omega (arith, arrivals_most)

    range_same : (b l : ℕ) → b < boxes_of s → l < links_of s → range_fault s b l ≡ range_fault t b l
    unfolding range_fault range_ok
    range_same b l h lt =
        let e : arrival_at s b ≡ arrival_at t b = arrival_place b in
        let m : arrival_at s b ≤ arrivals_start_bound + arrival_size max_links * b = arrival_below b in
        let low : low_of s b l ≡ low_of t b l = u16_same A (omega arith) (omega (arith, C.links, C.boxes)) in
        let high : high_of s b l ≡ high_of t b l = u16_same A (omega arith) (omega (arith, C.links, C.boxes)) in
        need_same (cc) (ap (refusal 8) e) (λ _. refl)

    pub arrival_same : (b : ℕ) → b < boxes_of s → arrival_fault s b ≡ arrival_fault t b
    unfolding arrival_fault
    arrival_same b h =
        or_same (marked_opened A _ _ (arrival_place b) (omega (arith, links_same A)) (omega arith) (omega (arith, arrival_below b, C.links, C.boxes)))
        (λ _. loop_same (links_same A) (λ l lt _. range_same b l h lt))

    -- where the entries start, and at most where
    entries_start_lem : entries_start s ≡ entries_start t
    unfolding entries_start
    entries_start_lem = arrival_place (boxes_of s) ∙ ap (arrival_at t) (boxes_same A)

    entries_most : entries_start s ≤ entries_start_bound
    unfolding entries_start
    entries_most = omega (arith, arrival_below (boxes_of s), C.boxes)

    -- the bytes of an entry
    entry_byte : (i : ℕ) → i < entry_size → (e : ℕ) → e < entries_of s → byte_at s (entry_at s e + i) ≡ byte_at t (entry_at t e + i)
    entry_byte i h e lt = byte_same A (omega (arith, entries_start_lem)) (omega (arith, entries_most, C.entries))

    cell_same : (e : ℕ) → e < entries_of s → cell_of s e ≡ cell_of t e
    cell_same e h = u16_same A (omega (arith, entries_start_lem)) (omega (arith, entries_most, C.entries))

    mode_same : (e : ℕ) → e < entries_of s → mode_of s e ≡ mode_of t e
    mode_same = entry_byte 4 (omega arith)

    entry_ascends_lem : (e : ℕ) → e < entries_of s → entry_ascends s e ≡ entry_ascends t e
    unfolding entry_ascends
    entry_ascends_lem zero h = refl
    entry_ascends_lem (suc e) h = cc (cell_same e (omega arith), mode_same e (omega arith), cell_same (suc e) h, mode_same (suc e) h)

    -- the memory of the next mode is read only where the names exist
    passes : (e : ℕ) → signal_of s e ≡ signal_of t e → next_mode_of s e ≡ next_mode_of t e → names_exist s e ≡ true → passes_on s e ≡ passes_on t e
    unfolding passes_on names_exist
    passes e signal next names =
        let exists : next_mode_of s e < modes_of s = ltb-true _ _ (also_both _ _ names).1 in
        rw (shown_same A C (next_mode_of s e) exists, remembers_same A, signal, next)

    -- and so are the goal numbers
    turns : (e : ℕ) → e < entries_of s → next_mode_of s e ≡ next_mode_of t e → names_exist s e ≡ true → turns_on s e ≡ turns_on t e
    unfolding turns_on names_exist
    turns e h next names =
        let last = also_both _ _ names in
        let exists : next_mode_of s e < modes_of s = ltb-true _ _ last.1 in
        let held : mode_of s e < modes_of s = ltb-true _ _ (also_both _ _ (also_both _ _ last.0).0).1 in
        let rank : rank_of s e ≡ rank_of t e = u16_same A (omega (arith, entries_start_lem)) (omega (arith, entries_most, C.entries)) in
        rw (number_same A C (next_mode_of s e) exists, number_same A C (mode_of s e) held, next, mode_same e h, rank, next_same A C)

    pub entry_same : (e : ℕ) → e < entries_of s → entry_fault s e ≡ entry_fault t e
    unfolding entry_fault names_exist
    entry_same e h =
        let signal : signal_of s e ≡ signal_of t e = entry_byte 5 (omega arith) e h in
        let next : next_mode_of s e ≡ next_mode_of t e = entry_byte 6 (omega arith) e h in
        let cells : cells_of s ≡ cells_of t = product_same (links_of s) (omega arith) few (links_of s) (omega arith) ∙ ap (product_of t) (links_same A) in
        let names : names_exist s e ≡ names_exist t e = cc (cell_same e h, mode_same e h, signals_same A, modes_same A) in
        let order : entry_ascends s e ≡ entry_ascends t e = entry_ascends_lem e h in
        let place : entry_at s e ≡ entry_at t e = omega (arith, entries_start_lem) in
        or_same (marked_opened A _ _ place refl (omega arith) (omega (arith, entries_most, C.entries)))
        (λ _. need_same (cc) (ap (refusal _) place)
        (λ exist. need_same (cc) (ap (refusal _) place)
        (λ _. need_same (passes e signal next exist) (ap (refusal _) place)
        (λ _. need_same (turns e h next exist) (ap (refusal _) place) (λ _. refl)))))

    -- both strings go on after ZZ, so both are refused there
    pub end_same : end_fault s ≡ end_fault t
    unfolding end_fault end_at
    end_same =
        let e : end_at s ≡ end_at t = omega (arith, entries_start_lem, entries_same A) in
        let m : end_at s ≤ stop_bound = omega (arith, entries_most, C.entries) in
        or_same (marked_opened A _ _ e refl (omega arith) (omega arith))
        (λ _. need_same
        (lt-leb (length s) (end_at s + end_size) (omega (arith, A.long)) ∙ sym (lt-leb (length t) (end_at t + end_size) (omega (arith, A.long'))))
        (ap (λ (o : ℕ). refusal 2 (o + end_size)) e)
        (λ _. refl))
