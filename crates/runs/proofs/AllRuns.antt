-- All exact queues and arrivals are those of some run, steps go by the entry in force, and cells say what their queues do. Assumes nothing.
use Prim.Native.Nat.{ℕ, zero, suc, ◌+◌, ◌*◌, ◌%◌, ◌≤◌, ◌<◌}
use mathlib.Core.Bool.{Bool, true, false, cond}
use mathlib.Core.List.{List, [], ◌∷◌}
use mathlib.Core.Logic.{◌↔◌, ⊎_elim}
use mathlib.Core.Path.{◌≡◌, refl, ap, sym, ◌∙◌}
use native.Mathlib.Nat.{le_trans, eq-or-lt_of_le, mul_assoc, mul_comm, mul_left_comm, mul-le-mul_left, mod_self, mod-lt, mod-eq_of_lt, mod-add-mod}
use native.Mathlib.Numerals.{add-one}
use native.Mathlib.Omega.{arith}
use borrow.Author.Tests.{leb-true, ltb-true, eqb-true}
use lib.ListN.{length, get_or}
use lib.Dec.{leb, ltb}
use Rattle.certificate.specs.Loops.{every}
use Rattle.certificate.specs.Layout.{links_of, cap_of, safe_of, goal_for, low_of, high_of, entries_of, cell_of, mode_of, rank_of, greatest_goal, next_goal}
use Rattle.certificate.specs.Facts.{Readable}
use Rattle.certificate.proofs.Tests.{and_both}
use Rattle.certificate.proofs.Loops.{every-each, found}
use Rattle.certificate.proofs.KindLaws.{one_goal_layout}
use Rattle.certificate.proofs.Goals.{attained, at_most_greatest, goals_in_order}
use Rattle.grid.specs.Cells.{upper_of, cell_at}
use Rattle.grid.specs.Laws.{InClosedCell}
use Rattle.grid.proofs.Edges.{cell_lower_below_upper}
use Rattle.grid.proofs.Intervals.{one_cell}
use Rattle.judging.specs.Lookup.{is_for, entry_for}
use Rattle.runs.specs.Fractions.{Fraction, fraction_at, scale_of, over_scale}
use Rattle.runs.specs.Goals.{turned}
use Rattle.runs.specs.Runs.{RunState, Step, InForce, entry_in, has_entry, moved, stepped, after, moment_of, no_step}
use Rattle.runs.specs.Laws.{AnyQueues, AnyArrivals, OneScale, MomentsFollow, StepsGo, CellsSay, TurnsRound, RankIsGreatest}
use Rattle.runs.proofs.Fractions.{keeps_fractions}
use Rattle.runs.proofs.Steps.{moves}

-- x 0 .. x (n - 1), each over D, as a list of fractions
all_over : ℕ → ℕ → (ℕ → ℕ) → List Fraction
all_over D zero x = []
all_over D (suc n) x = record { num = x 0; den = D } ∷ all_over D n (λ l. x (suc l))

all_length : (D n : ℕ) (x : ℕ → ℕ) → length (all_over D n x) ≡ n
unfolding all_over
all_length D zero x = refl
all_length D (suc n) x = ap suc (all_length D n (λ l. x (suc l)))

all_at : (D n : ℕ) (x : ℕ → ℕ) (l : ℕ) → l < n → fraction_at (all_over D n x) l ≡ record { num = x l; den = D }
unfolding all_over
all_at D zero x l lt = absurd (omega arith)
all_at D (suc n) x zero lt = refl
all_at D (suc n) x (suc l) lt = all_at D n (λ k. x (suc k)) l (omega arith)

-- brought to one scale they are the same, by cross products
all_same : (D n : ℕ) (x : ℕ → ℕ) (l : ℕ) → l < n → over_scale (all_over D n x) l * D ≡ x l * scale_of (all_over D n x)
all_same D n x l lt =
    let there : l < length (all_over D n x) = rw all_length lt in
    rw (all_at D n x l lt) at (keeps_fractions (all_over D n x) l there)

pub any_queues : AnyQueues
any_queues s D x pos = (
  all_over D (links_of s) x,
  record { count = all_length D (links_of s) x; scales = λ l lt. rw (all_at D (links_of s) x l lt) pos },
  λ mode. record { queue = all_same D (links_of s) x; held = refl },
)

pub any_arrivals : AnyArrivals
any_arrivals s b D a lb pos inside = (
  record { box = b; arrivals = all_over D (links_of s) a },
  record {
    box = lb;
    count = all_length D (links_of s) a;
    scales = λ l lt. rw (all_at D (links_of s) a l lt) pos;
    low = λ l lt. rw (all_at D (links_of s) a l lt) (rw (mul_comm (low_of s b l) D) (inside l lt).0);
    high = λ l lt. rw (all_at D (links_of s) a l lt) (rw (mul_comm (high_of s b l) D) (inside l lt).1);
  },
  refl,
  all_same D (links_of s) a,
)

pub one_scale : OneScale
one_scale r p =
    record {
      queue = λ l. rw (mul_assoc, mul_comm (scale_of p.arrivals) r.scale);
      arrival = λ l lt. rw (mul_assoc, keeps_fractions p.arrivals l lt, mul_left_comm);
    }

-- one step more, from the front
one_more : (s : List ℕ) (r : RunState) (steps : List Step) (k : ℕ) → k < length steps
    → moment_of s r steps (suc k) ≡ stepped s (moment_of s r steps k) (get_or steps k no_step)
unfolding after
one_more s r [] k lt = absurd (omega arith)
one_more s r (p ∷ ps) zero lt = refl
one_more s r (p ∷ ps) (suc k) lt = one_more s (stepped s r p) ps k (omega arith)

pub moments_follow : MomentsFollow
unfolding after
moments_follow s r steps = record { first = refl; next = λ k lt. rw add-one (one_more s r steps k lt) }

-- where the lookup finds an entry, it is in force
found_in_force : (s : List ℕ) → Readable s → (r : RunState) → 1 ≤ r.scale → has_entry s r ≡ true → InForce s r (entry_in s r)
unfolding has_entry entry_for
found_in_force s R r pos e =
    let both = and_both (every (links_of s) (λ l. leb (r.queue l) (r.scale * cap_of s l))) (ltb (entry_in s r) (entries_of s)) e in
    let exists : entry_in s r < entries_of s = ltb-true _ _ both.1 in
    let pair = and_both _ _ ((found (entries_of s) (is_for s (cell_at s r.scale r.queue) r.mode)).passes exists) in
    let held = (one_cell s R r.scale r.queue pos (λ l lt. leb-true _ _ (every-each (links_of s) _ both.0 l lt))).0 in
    let cell : cell_of s (entry_in s r) ≡ cell_at s r.scale r.queue = eqb-true _ _ pair.0 in
    record { exists = exists; cell = rw cell held; mode = eqb-true _ _ pair.1 }

pub steps_go : StepsGo
unfolding stepped
steps_go s S r p pos = record { moves = λ e F. moves s S r e F pos p; stays = λ none. go none (has_entry s r) refl }
  where
    go : ((e : ℕ) → InForce s r e → ⊥) → (b : Bool) → has_entry s r ≡ b → cond b (moved s r p (entry_in s r)) r ≡ r
    go none true e = absurd (none _ (found_in_force s S.readable r pos e))
    go none false e = refl

-- one goal on, counted round
next_round : (s : List ℕ) (m : ℕ) → m ≤ greatest_goal s → next_goal s m ≡ (m + 1) % (greatest_goal s + 1)
next_round s m le =
    ⊎_elim
    (λ (e : m ≡ greatest_goal s). rw e ((goals_in_order s).wraps ∙ sym (mod_self (greatest_goal s + 1))))
    (λ (lt : m < greatest_goal s). let below : m + 1 < greatest_goal s + 1 = omega arith in (goals_in_order s).on m lt ∙ sym (mod-eq_of_lt below))
    (eq-or-lt_of_le le)

pub turns_round : TurnsRound
unfolding turned
turns_round s zero n le = let below : n + 0 < greatest_goal s + 1 = omega arith in rw (mod-eq_of_lt below) (omega arith)
turns_round s (suc i) n le =
    let so_far : (n + i) % (greatest_goal s + 1) < greatest_goal s + 1 = mod-lt (n + i) (omega arith) in
    rw (turns_round s i n le)
    (next_round s ((n + i) % (greatest_goal s + 1)) (omega arith) ∙ mod-add-mod (n + i) (greatest_goal s + 1) 1 ∙ ap (λ (k : ℕ). k % (greatest_goal s + 1)) (omega arith))

pub rank_is_greatest : RankIsGreatest
rank_is_greatest s R =
    record { most = λ e lt. at_most_greatest (entries_of s) (rank_of s) e lt; some = attained (entries_of s) (rank_of s) R.header.entries_least }

-- the upper edges of a cell, as queues over scale 1
corner : List ℕ → ℕ → RunState
corner s c = record { scale = 1; queue = upper_of s c; mode = 0; shown = 0 }

module _ (s : List ℕ) (R : Readable s) (c : ℕ) where
  corner_inside : InClosedCell s c (corner s c).scale (corner s c).queue
  unfolding corner
  corner_inside l lt = (omega (arith, cell_lower_below_upper s R l lt c), omega arith)

  -- all upper edges are within a bound exactly if all queues of the closed cell are
  cell_bound : (bound : ℕ → ℕ) → ((l : ℕ) → l < links_of s → upper_of s c l ≤ bound l)
      ↔ ((r : RunState) → InClosedCell s c r.scale r.queue → (l : ℕ) → l < links_of s → r.queue l ≤ r.scale * bound l)
  unfolding corner
  cell_bound bound = (
    (λ edges r inside l lt. le_trans (inside l lt).1 (mul-le-mul_left r.scale (edges l lt))),
    (λ all l lt. omega (arith, all (corner s c) corner_inside l lt)),
  )

pub cells_say : CellsSay
cells_say s R e =
    record {
      safe = cell_bound s R (cell_of s e) (safe_of s);
      goal = cell_bound s R (cell_of s e) (goal_for s (mode_of s e));
      one_goal = λ one r. (
        (λ met l lt. rw ((one_goal_layout s one).goal (mode_of s e) l) at (met l lt)),
        (λ met l lt. rw ((one_goal_layout s one).goal (mode_of s e) l) (met l lt)),
      );
    }
