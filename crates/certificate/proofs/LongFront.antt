-- The records HD, LK, TN, SG and MD are tested alike in two byte strings that agree up to the greatest length. Assumes nothing.
use Prim.Native.Nat.{ℕ, zero, suc, ◌+◌, ◌*◌, ◌≤◌, ◌<◌}
use mathlib.Core.List.{List}
use mathlib.Core.Bool.{Bool, true}
use mathlib.Core.Path.{◌≡◌, refl, ap, ◌∙◌}
use native.Mathlib.Omega.{arith}
use borrow.Author.Tests.{leb-true, ltb-true}
use lib.Dec.{ltb, leb, eqb}
use Rattle.certificate.specs.Loops.{greatest_to, any_to, every}
use Rattle.certificate.specs.Octets.{byte_at, u16_at, ◌also◌}
use Rattle.certificate.specs.Checks.{refusal}
use Rattle.certificate.specs.Layout.{max_links, max_turns, max_signals, max_modes, max_boxes, max_entries, header_size, max_link_size, turn_size, signal_size, goal_mode_size, links_of, turns_of, signals_of, modes_of, boxes_of, entries_of, remembers, takes_turns, link_size, link_at, tail_of, head_of, cap_of, flow_of, safe_of, goal_of, start_flow_of, turns_start, turn_at, from_of, to_of, share_of, pull_of, signals_start, green_byte_of, mode_records_of, modes_start, mode_size, mode_at, shown_before, goal_number_of, goal_for, greatest_goal, next_goal, grid_start}
use Rattle.certificate.specs.Records.{header_ok, header_marked, header_fault, link_ok, link_fault, turn_ascends, share_total, turn_ok, turn_fault, signal_ok, signal_fault, goals_safe, same_goals, goals_agree, is_used, no_gap, goals_ok, mode_ok, mode_fault}
use Rattle.certificate.proofs.Tests.{also_both, need_both, or_both}
use Rattle.certificate.proofs.Loops.{sum_same, greatest_same, any_same, every_same}
use Rattle.certificate.proofs.Agreement.{also_same, or_same, need_same, Agree, byte_same, u16_same, marked_same, opened_same, marked_opened, record_same}
use Rattle.certificate.proofs.KindSizes.{link_least, mode_least, records_most, links_most, link_step, all_modes_most, mode_step}

-- what a header that passes says of where the other records stand
pub record Counts (s : List ℕ) : Type 0 where
  pub links : links_of s ≤ max_links
  pub turns : turns_of s ≤ max_turns
  pub signals : signals_of s ≤ max_signals
  pub modes : modes_of s ≤ max_modes
  pub boxes : boxes_of s ≤ max_boxes
  pub entries : entries_of s ≤ max_entries

pub counts : (s : List ℕ) → (header_fault s).number ≡ 0 → Counts s
unfolding header_fault header_ok
counts s z =
    let ok = (need_both _ _ _ (λ e. omega arith) (or_both _ _ z).1).0 in
    let a = also_both _ _ ok in
    let b = also_both _ _ (also_both _ _ a.0).0 in
    let c = also_both _ _ (also_both _ _ (also_both _ _ (also_both _ _ b.0).0).0).0 in
    let d = also_both _ _ (also_both _ _ c.0).0 in
    record {
      links = leb-true _ _ (also_both _ _ d.0).1;
      turns = leb-true _ _ d.1;
      signals = leb-true _ _ c.1;
      modes = leb-true _ _ (also_both _ _ (also_both _ _ b.0).0).1;
      boxes = leb-true _ _ b.1;
      entries = leb-true _ _ a.1;
    }

-- the greatest offsets at which TN, SG, MD and GR may start
abbrev turns_start_bound : ℕ
turns_start_bound = header_size + max_links * max_link_size

abbrev signals_start_bound : ℕ
signals_start_bound = turns_start_bound + max_turns * turn_size

abbrev modes_start_bound : ℕ
modes_start_bound = signals_start_bound + max_signals * signal_size

abbrev pub grids_start_bound : ℕ
grids_start_bound = modes_start_bound + max_modes * goal_mode_size max_links

-- the links that turn k names exist
abbrev exist : List ℕ → ℕ → Bool
exist s k = ltb (from_of s k) (links_of s) also ltb (to_of s k) (links_of s)

module _ {s t : List ℕ} (A : Agree s t) where
  -- the counts of the header
  pub links_same : links_of s ≡ links_of t
  links_same = byte_same A refl (omega arith)

  pub turns_same : turns_of s ≡ turns_of t
  turns_same = byte_same A refl (omega arith)

  pub signals_same : signals_of s ≡ signals_of t
  signals_same = byte_same A refl (omega arith)

  pub modes_same : modes_of s ≡ modes_of t
  modes_same = byte_same A refl (omega arith)

  pub boxes_same : boxes_of s ≡ boxes_of t
  boxes_same = byte_same A refl (omega arith)

  pub entries_same : entries_of s ≡ entries_of t
  entries_same = u16_same A refl (omega arith)

  -- the kind
  pub remembers_same : remembers s ≡ remembers t
  unfolding remembers
  remembers_same = let e : byte_at s 1 ≡ byte_at t 1 = byte_same A refl (omega arith) in cc

  turning_same : takes_turns s ≡ takes_turns t
  unfolding takes_turns
  turning_same = let e : byte_at s 1 ≡ byte_at t 1 = byte_same A refl (omega arith) in cc

  mode_size_lem : mode_size s ≡ mode_size t
  unfolding mode_size
  mode_size_lem = rw (turning_same, links_same)

  size_same : link_size s ≡ link_size t
  unfolding link_size
  size_same = rw remembers_same

  pub link_place : (l : ℕ) → link_at s l ≡ link_at t l
  link_place l = rw size_same

  pub records_same : mode_records_of s ≡ mode_records_of t
  unfolding mode_records_of
  records_same = rw (remembers_same, modes_same)

  pub header_same : header_fault s ≡ header_fault t
  unfolding header_fault header_ok header_marked
  header_same =
      or_same (opened_same A (cc (marked_same A 72 68 {o = 0} refl (omega arith), marked_same A 72 50 {o = 0} refl (omega arith), marked_same A 72 51 {o = 0} refl (omega arith))) refl refl (omega arith) (omega arith))
      (λ _. need_same (cc (links_same, turns_same, signals_same, modes_same, boxes_same, entries_same)) refl (λ _. refl))

  module _ (C : Counts s) where
    -- the bytes of a link
    link_most : (l : ℕ) → l < links_of s → link_at s l + link_size s ≤ turns_start_bound
    link_most l lt = omega (arith, link_step s l (links_of s) lt, links_most s (links_of s) max_links C.links)

    pub link_u16 : (i : ℕ) → i ≤ 12 → (l : ℕ) → l < links_of s → u16_at s (link_at s l + i) ≡ u16_at t (link_at t l + i)
    link_u16 i h l lt = u16_same A (ap (λ (o : ℕ). o + i) (link_place l)) (omega (arith, link_most l lt, link_least s))

    link_byte : (i : ℕ) → i ≤ 12 → (l : ℕ) → l < links_of s → byte_at s (link_at s l + i) ≡ byte_at t (link_at t l + i)
    link_byte i h l lt = byte_same A (ap (λ (o : ℕ). o + i) (link_place l)) (omega (arith, link_most l lt, link_least s))

    start_same : (l : ℕ) → l < links_of s → start_flow_of s l ≡ start_flow_of t l
    unfolding start_flow_of
    start_same l lt =
        let flow : flow_of s l ≡ flow_of t l = link_u16 6 (omega arith) l lt in
        let start : u16_at s (link_at s l + 12) ≡ u16_at t (link_at t l + 12) = link_u16 12 (omega arith) l lt in
        rw (remembers_same, flow, start)

    pub link_same : (l : ℕ) → l < links_of s → link_fault s l ≡ link_fault t l
    unfolding link_fault link_ok
    link_same l lt =
        let tail : tail_of s l ≡ tail_of t l = link_byte 2 (omega arith) l lt in
        let head : head_of s l ≡ head_of t l = link_byte 3 (omega arith) l lt in
        let cap : cap_of s l ≡ cap_of t l = link_u16 4 (omega arith) l lt in
        let flow : flow_of s l ≡ flow_of t l = link_u16 6 (omega arith) l lt in
        let safe : safe_of s l ≡ safe_of t l = link_u16 8 (omega arith) l lt in
        let goal : goal_of s l ≡ goal_of t l = link_u16 10 (omega arith) l lt in
        or_same (marked_opened A _ _ (link_place l) size_same (omega (arith, link_least s)) (omega (arith, link_most l lt)))
        (λ _. need_same (cc (start_same l lt)) (ap (refusal 4) (link_place l)) (λ _. refl))

    -- where the turns start, and at most where
    turns_start_lem : turns_start s ≡ turns_start t
    unfolding turns_start
    turns_start_lem = link_place (links_of s) ∙ ap (link_at t) links_same

    turns_most : turns_start s ≤ turns_start_bound
    unfolding turns_start
    turns_most = omega (arith, links_most s (links_of s) max_links C.links)

    -- the bytes of a turn
    turn_byte : (i : ℕ) → i < turn_size → (k : ℕ) → k < turns_of s → byte_at s (turn_at s k + i) ≡ byte_at t (turn_at t k + i)
    turn_byte i h k lt = byte_same A (omega (arith, turns_start_lem)) (omega (arith, turns_most, C.turns))

    from_same : (k : ℕ) → k < turns_of s → from_of s k ≡ from_of t k
    from_same = turn_byte 2 (omega arith)

    to_same : (k : ℕ) → k < turns_of s → to_of s k ≡ to_of t k
    to_same = turn_byte 3 (omega arith)

    share_same : (k : ℕ) → k < turns_of s → share_of s k ≡ share_of t k
    share_same = turn_byte 4 (omega arith)

    turn_ascends_lem : (k : ℕ) → k < turns_of s → turn_ascends s k ≡ turn_ascends t k
    unfolding turn_ascends
    turn_ascends_lem zero lt = refl
    turn_ascends_lem (suc k) lt = cc (from_same k (omega arith), to_same k (omega arith), from_same (suc k) lt, to_same (suc k) lt)

    share_total_lem : (k : ℕ) → k < turns_of s → share_total s k ≡ share_total t k
    unfolding share_total
    share_total_lem k lt = sum_same (k + 1) _ _ (λ u h. cc (from_same u (omega arith), from_same k lt, share_same u (omega arith)))

    -- the links that a turn joins are read only where they exist
    joined_same : (k : ℕ) → k < turns_of s → exist s k ≡ true → eqb (head_of s (from_of s k)) (tail_of s (to_of s k)) ≡ eqb (head_of t (from_of t k)) (tail_of t (to_of t k))
    joined_same k lt e =
        let both = also_both _ _ e in
        let from : from_of s k < links_of s = ltb-true _ _ both.0 in
        let to : to_of s k < links_of s = ltb-true _ _ both.1 in
        let head : head_of s (from_of s k) ≡ head_of t (from_of t k) = link_byte 3 (omega arith) (from_of s k) from ∙ ap (head_of t) (from_same k lt) in
        let tail : tail_of s (to_of s k) ≡ tail_of t (to_of t k) = link_byte 2 (omega arith) (to_of s k) to ∙ ap (tail_of t) (to_same k lt) in
        cc

    pub turn_same : (k : ℕ) → k < turns_of s → turn_fault s k ≡ turn_fault t k
    unfolding turn_fault turn_ok
    turn_same k lt =
        let from = from_same k lt in
        let to = to_same k lt in
        let pull : pull_of s k ≡ pull_of t k = u16_same A (omega (arith, turns_start_lem)) (omega (arith, turns_most, C.turns)) in
        let both : exist s k ≡ exist t k = cc links_same in
        let joined = also_same both (joined_same k lt) in
        record_same A _ _ _ _ (omega (arith, turns_start_lem)) (omega arith) (omega (arith, turns_most, C.turns))
        (cc (joined, share_same k lt, turn_ascends_lem k lt, share_total_lem k lt))

    -- where the signals start
    signals_start_lem : signals_start s ≡ signals_start t
    unfolding signals_start
    signals_start_lem = omega (arith, turns_start_lem, turns_same)

    signals_most : signals_start s ≤ signals_start_bound
    unfolding signals_start
    signals_most = omega (arith, turns_most, C.turns)

    pub signal_same : (g : ℕ) → g < signals_of s → signal_fault s g ≡ signal_fault t g
    unfolding signal_fault signal_ok
    signal_same g lt =
        let green : green_byte_of s g ≡ green_byte_of t g = byte_same A (omega (arith, signals_start_lem)) (omega (arith, signals_most, C.signals)) in
        record_same A _ _ _ _ (omega (arith, signals_start_lem)) (omega arith) (omega (arith, signals_most, C.signals)) (cc links_same)

    -- where the modes start
    modes_start_lem : modes_start s ≡ modes_start t
    unfolding modes_start
    modes_start_lem = omega (arith, signals_start_lem, signals_same)

    modes_most : modes_start s ≤ modes_start_bound
    unfolding modes_start
    modes_most = omega (arith, signals_most, C.signals)

    mode_place : (m : ℕ) → mode_at s m ≡ mode_at t m
    mode_place m = cc (modes_start_lem, mode_size_lem)

    mode_most : (m : ℕ) → m < modes_of s → mode_at s m + mode_size s ≤ grids_start_bound
    mode_most m lt = omega (arith, modes_most, mode_step s m (modes_of s) lt, all_modes_most s C.links (modes_of s) max_modes C.modes)

    -- the memory, goal number and goals of every mode, whether it has a record or not
    mode_byte : (i : ℕ) → i ≤ 3 → (m : ℕ) → m < modes_of s → byte_at s (mode_at s m + i) ≡ byte_at t (mode_at t m + i)
    mode_byte i h m lt = byte_same A (ap (λ (o : ℕ). o + i) (mode_place m)) (omega (arith, mode_most m lt))

    pub shown_same : (m : ℕ) → m < modes_of s → shown_before s m ≡ shown_before t m
    unfolding shown_before
    shown_same m lt = rw (remembers_same, mode_byte 2 (omega arith) m lt)

    pub number_same : (m : ℕ) → m < modes_of s → goal_number_of s m ≡ goal_number_of t m
    unfolding goal_number_of
    number_same m lt = rw (turning_same, mode_byte 3 (omega arith) m lt)

    goal_same : (m l : ℕ) → m < modes_of s → l < links_of s → goal_for s m l ≡ goal_for t m l
    unfolding goal_for
    goal_same m l lt ll =
        let plain : goal_of s l ≡ goal_of t l = link_u16 10 (omega arith) l ll in
        let own : u16_at s (mode_at s m + (4 + 2 * l)) ≡ u16_at t (mode_at t m + (4 + 2 * l)) = u16_same A (ap (λ (o : ℕ). o + (4 + 2 * l)) (mode_place m)) (omega (arith, mode_most m lt, C.links)) in
        rw (turning_same, plain, own)

    greatest : greatest_goal s ≡ greatest_goal t
    unfolding greatest_goal
    greatest = greatest_same (modes_of s) _ _ number_same ∙ ap (λ (n : ℕ). greatest_to n (goal_number_of t)) modes_same

    pub next_same : (n : ℕ) → next_goal s n ≡ next_goal t n
    unfolding next_goal
    next_same n = rw greatest

    equal_same : (k m : ℕ) → k < modes_of s → m < modes_of s → same_goals s k m ≡ same_goals t k m
    unfolding same_goals
    equal_same k m lk lm =
        every_same (links_of s) _ _ (λ l ll. cc (goal_same k l lk ll, goal_same m l lm ll)) ∙ ap (λ (n : ℕ). every n (λ l. eqb (goal_for t k l) (goal_for t m l))) links_same

    agree_same : (m : ℕ) → m < modes_of s → goals_agree s m ≡ goals_agree t m
    unfolding goals_agree
    agree_same m lt = every_same m _ _ (λ k below. cc (number_same k (omega arith), number_same m lt, equal_same k m (omega arith) lt))

    safe_same : (m : ℕ) → m < modes_of s → goals_safe s m ≡ goals_safe t m
    unfolding goals_safe
    safe_same m lt =
        every_same (links_of s) _ _ (λ l ll. let e : safe_of s l ≡ safe_of t l = link_u16 8 (omega arith) l ll in cc (goal_same m l lt ll))
        ∙ ap (λ (n : ℕ). every n (λ l. leb (goal_for t m l) (safe_of t l))) links_same

    used_same : (n : ℕ) → is_used s n ≡ is_used t n
    unfolding is_used
    used_same n = any_same (modes_of s) _ _ (λ m lt. cc (number_same m lt)) ∙ ap (λ (k : ℕ). any_to k (λ m. eqb (goal_number_of t m) n)) modes_same

    gap_same : no_gap s ≡ no_gap t
    unfolding no_gap
    gap_same = every_same (greatest_goal s) _ _ (λ n _. used_same n) ∙ ap (λ (k : ℕ). every k (is_used t)) greatest

    goals_same : (m : ℕ) → m < modes_of s → goals_ok s m ≡ goals_ok t m
    unfolding goals_ok
    goals_same m lt = cc (number_same m lt, safe_same m lt, agree_same m lt, modes_same, gap_same)

    pub mode_same : (m : ℕ) → m < mode_records_of s → mode_fault s m ≡ mode_fault t m
    unfolding mode_fault mode_ok
    mode_same m lt =
        let inside : m < modes_of s = omega (arith, records_most s) in
        or_same (marked_opened A _ _ (mode_place m) mode_size_lem (omega (arith, mode_least s)) (omega (arith, mode_most m inside)))
        (λ _. need_same (cc (shown_same m inside, signals_same, turning_same, goals_same m inside)) (ap (refusal 6) (mode_place m)) (λ _. refl))

    -- where the grid starts
    pub grid_start_lem : grid_start s ≡ grid_start t
    unfolding grid_start
    grid_start_lem = mode_place (mode_records_of s) ∙ ap (mode_at t) records_same

    pub grid_most : grid_start s ≤ grids_start_bound
    unfolding grid_start
    grid_most = omega (arith, modes_most, all_modes_most s C.links (mode_records_of s) max_modes (omega (arith, records_most s, C.modes)))
