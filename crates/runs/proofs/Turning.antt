-- When goals are met along a run, from what each step keeps: goals in turn, and from these the goal times. Assumes nothing.
use Prim.Native.Nat.{ℕ, zero, suc, ◌+◌, ◌*◌, ◌-◌, ◌≤◌, ◌<◌}
use mathlib.Core.Bool.{false}
use mathlib.Core.List.{List, [], ◌∷◌}
use mathlib.Core.Logic.{⊎_elim}
use mathlib.Core.Path.{◌≡◌, refl, sym, ◌∙◌, ap}
use native.Mathlib.Nat.{eq-zero-or-pos, zero-add, suc-add, add-mul, one-mul}
use native.Mathlib.Numerals.{add-one}
use native.Mathlib.Omega.{arith}
use lib.ListN.{length, drop, length-drop}
use Rattle.certificate.specs.Layout.{modes_of, entries_of, mode_of, next_mode_of, rank_of, takes_turns, goal_number_of, next_goal}
use Rattle.certificate.specs.Facts.{Readable}
use Rattle.certificate.proofs.KindLaws.{one_goal_layout}
use Rattle.certificate.proofs.Goals.{at_most_greatest}
use Rattle.runs.specs.Runs.{RunState, Step, InForce, stepped, after, moment_of, GoalMet}
use Rattle.runs.specs.Goals.{greatest_rank, GoalTimes, MetFor, number_at, Visit, turned, GoalInTurn, AndSoOn, InTurn}
use Rattle.runs.proofs.Steps.{Follower, Steady}
use Rattle.runs.proofs.Moments.{Run, first, rest, listed}

module _ (s : List ℕ) (S : Steady s) (R : Readable s) where
  -- the run from moment k on, with any entry in force there
  run_at : {r : RunState} {e : ℕ} {steps : List Step} → Run s r e steps → (k : ℕ) → k ≤ length steps → (f : ℕ) → InForce s (moment_of s r steps k) f
      → Run s (moment_of s r steps k) f (drop k steps)
  unfolding after
  run_at P zero le f F = record { scale = P.scale; in_force = F; remembered = P.remembered; proper = P.proper }
  run_at {steps = []} P (suc k) le f F = absurd (omega arith)
  run_at {r} {steps = p ∷ ps} P (suc k) le f F = run_at {r = stepped s r p} (rest s S P) k (omega arith) f F

  moment_add : (r : RunState) (steps : List Step) (k j : ℕ) → k ≤ length steps → moment_of s (moment_of s r steps k) (drop k steps) j ≡ moment_of s r steps (k + j)
  unfolding after
  moment_add r steps zero j le = ap (moment_of s r steps) (sym (zero-add j))
  moment_add r [] (suc k) j le = absurd (omega arith)
  moment_add r (p ∷ ps) (suc k) j le = moment_add (stepped s r p) ps k j (omega arith) ∙ ap (moment_of s r (p ∷ ps)) (sym (suc-add k j))

  -- the mode held where an entry is in force exists
  mode_exists : {r : RunState} {e : ℕ} → InForce s r e → r.mode < modes_of s
  mode_exists {e = e} F = rw F.mode at (R.entry e F.exists).mode

  -- where the rank is 0 the goal of the mode held is met at once
  met_now : {r : RunState} {e : ℕ} {steps : List Step} → Run s r e steps → (n : ℕ) → rank_of s e ≡ 0 → Visit s (moment_of s r steps) 0 n
  unfolding after
  met_now {r} {e} {steps} P n z =
      record {
        at = 0;
        least = omega arith;
        most = omega arith;
        met = S.goal r e P.in_force z;
        entry = e;
        in_force = P.in_force;
        rank = z;
        stays = only;
      }
    where
      only : (i : ℕ) → 0 ≤ i → i ≤ 0 → number_at s (moment_of s r steps) i ≡ number_at s (moment_of s r steps) 0
      only zero low high = refl
      only (suc i) low high = absurd (omega arith)

  -- a step from a rank above 0 keeps the number, so a visit after it is one of the whole run
  met_later : {r : RunState} {e : ℕ} {p : Step} {ps : List Step} {n : ℕ} (P : Run s r e (p ∷ ps)) → 0 < rank_of s e
      → Visit s (moment_of s (stepped s r p) ps) 0 n → Visit s (moment_of s r (p ∷ ps)) 0 (suc n)
  unfolding after
  met_later {r} {e} {p} {ps} P above v =
      record {
        at = suc v.at;
        least = omega arith;
        most = omega (arith, v.most);
        met = λ l lt. rw (R.goals_agree_fact r.mode (stepped s r p).mode (mode_exists P.in_force) (mode_exists F.in_force) (sym same) l lt) (v.met l lt);
        entry = v.entry;
        in_force = v.in_force;
        rank = v.rank;
        stays = all;
      }
    where
      F : Follower s e (stepped s r p)
      F = first s S P

      same : goal_number_of s (stepped s r p).mode ≡ goal_number_of s r.mode
      same = ap (goal_number_of s) F.next_mode ∙ (R.turns_on_fact e P.in_force.exists).stays above ∙ ap (goal_number_of s) P.in_force.mode

      all : (i : ℕ) → 0 ≤ i → i ≤ suc v.at → number_at s (moment_of s r (p ∷ ps)) i ≡ number_at s (moment_of s r (p ∷ ps)) 0
      all zero low high = refl
      all (suc i) low high = v.stays i (omega arith) (omega arith) ∙ same

  -- the goal of the mode held is met within n steps, where the rank is at most n
  met_from : {r : RunState} {e : ℕ} {steps : List Step} → Run s r e steps → (n : ℕ) → rank_of s e ≤ n → n ≤ length steps → Visit s (moment_of s r steps) 0 n
  met_from P zero rank le = met_now P zero (omega arith)
  met_from {steps = []} P (suc n) rank le = absurd (omega arith)
  met_from {r} {e} {steps = p ∷ ps} P (suc n) rank le =
      ⊎_elim
      (λ z. met_now P (suc n) z)
      (λ above. met_later P above (met_from {r = stepped s r p} (rest s S P) n (omega (arith, (first s S P).lower above)) (omega arith)))
      (eq-zero-or-pos (rank_of s e))

  at_start : (r : RunState) (steps : List Step) → moment_of s r steps 0 ≡ r
  unfolding after
  at_start r steps = refl

  -- a visit of the run from moment k on is one of the whole run
  from_moment : (r : RunState) (steps : List Step) {k n : ℕ} → k ≤ length steps → Visit s (moment_of s (moment_of s r steps k) (drop k steps)) 0 n → Visit s (moment_of s r steps) k (k + n)
  unfolding after
  from_moment r steps {k} {n} le v =
      record {
        at = k + v.at;
        least = omega arith;
        most = omega (arith, v.most);
        met = rw (moment_add r steps k v.at le) at v.met;
        entry = v.entry;
        in_force = rw (moment_add r steps k v.at le) at v.in_force;
        rank = v.rank;
        stays = all;
      }
    where
      all : (i : ℕ) → k ≤ i → i ≤ k + v.at → number_at s (moment_of s r steps) i ≡ number_at s (moment_of s r steps) k
      all i low high =
          let e : k + (i - k) ≡ i = omega arith in
          let here : moment_of s (moment_of s r steps k) (drop k steps) (i - k) ≡ moment_of s r steps i = moment_add r steps k (i - k) le ∙ ap (moment_of s r steps) e in
          ap (λ (q : RunState). goal_number_of s q.mode) (sym here) ∙ v.stays (i - k) (omega arith) (omega arith)
          ∙ ap (λ (q : RunState). goal_number_of s q.mode) (at_start (moment_of s r steps k) (drop k steps))

  -- a step leads from the mode of the entry in force to its next mode
  next_mode : {r : RunState} {e : ℕ} {steps : List Step} → Run s r e steps → (k f : ℕ) → k < length steps → InForce s (moment_of s r steps k) f
      → ((moment_of s r steps (suc k)).mode ≡ next_mode_of s f) × ((moment_of s r steps k).mode ≡ mode_of s f)
  unfolding after
  next_mode {steps = []} P k f lt F = absurd (omega arith)
  next_mode {r} {steps = p ∷ ps} P zero f lt F =
      ((S.step r f p F P.scale P.remembered (P.proper zero (omega arith))).next_mode, sym F.mode)
  next_mode {r} {steps = p ∷ ps} P (suc k) f lt F = next_mode {r = stepped s r p} (rest s S P) k f (omega arith) F

-- and so on: from the other parts of the claim alone
module _ (s : List ℕ) (moment : ℕ → RunState) (n : ℕ)
    (listed : (k : ℕ) → k ≤ n → (f : ℕ) × InForce s (moment k) f)
    (met : (k f : ℕ) → InForce s (moment k) f → k + rank_of s f ≤ n → Visit s moment k (k + rank_of s f))
    (passes : (k f : ℕ) → k < n → InForce s (moment k) f → rank_of s f ≡ 0 → number_at s moment (k + 1) ≡ next_goal s (number_at s moment k)) where
  abbrev AndSoOnAt : ℕ → Type 0
  AndSoOnAt i = (k : ℕ) → k + (i + 1) * (greatest_rank s + 1) ≤ n + 1 → GoalInTurn s moment i k

  -- from every moment a visit comes within the greatest rank
  leg : (k : ℕ) → k + greatest_rank s ≤ n → Visit s moment k (k + greatest_rank s)
  leg k le =
      let f = listed k (omega arith) in
      let rank = at_most_greatest (entries_of s) (rank_of s) f.0 f.1.exists in
      let v = met k f.0 f.1 (omega arith) in
      record { at = v.at; least = v.least; most = omega (arith, v.most); met = v.met; entry = v.entry; in_force = v.in_force; rank = v.rank; stays = v.stays }

  -- a moment with rank 0 is one at which the goal of the mode then held is met
  visited : (k f : ℕ) → InForce s (moment k) f → rank_of s f ≡ 0 → k ≤ n → Visit s moment k k
  visited k f F z le = let same : k + rank_of s f ≡ k = omega arith in rw same at (met k f F (omega arith))

  -- so a visit is a goal in turn, if its number is the one due
  due : (i k : ℕ) {h last : ℕ} (v : Visit s moment h last) → k ≤ h → last < k + (i + 1) * (greatest_rank s + 1) → last ≤ n
      → number_at s moment h ≡ turned s i (number_at s moment k) → GoalInTurn s moment i k
  due i k v low high inside number =
      let w = visited v.at v.entry v.in_force v.rank (omega (arith, v.most)) in
      let same : w.at ≡ v.at = omega (arith, w.least, w.most) in
      record {
        at = v.at;
        least = omega (arith, v.least);
        most = omega (arith, v.most);
        number = v.stays v.at v.least (omega arith) ∙ number;
        met = rw same at w.met;
        entry = v.entry;
        in_force = v.in_force;
        rank = v.rank;
      }

  first_turn : AndSoOnAt 0
  unfolding turned
  first_turn k le = let one = one-mul (greatest_rank s + 1) in due 0 k (leg k (omega arith)) (omega arith) (omega arith) (omega arith) refl

  next_turn : (i : ℕ) → AndSoOnAt i → AndSoOnAt (suc i)
  unfolding turned
  next_turn i before k le =
      let more : (suc i + 1) * (greatest_rank s + 1) ≡ (i + 1) * (greatest_rank s + 1) + (greatest_rank s + 1) = rw (add-mul, one-mul) (omega arith) in
      let v = before k (omega arith) in
      let number = passes v.at v.entry (omega (arith, v.most)) v.in_force v.rank ∙ ap (next_goal s) v.number in
      due (suc i) k (leg (v.at + 1) (omega (arith, v.most))) (omega (arith, v.least)) (omega (arith, v.most)) (omega (arith, v.most)) number

  pub and_so_on : AndSoOn s moment n
  and_so_on zero = first_turn
  and_so_on (suc i) = next_turn i (and_so_on i)

module _ (s : List ℕ) (S : Steady s) (R : Readable s) where
  pub in_turn : {r : RunState} {e : ℕ} {steps : List Step} → Run s r e steps → InTurn s (moment_of s r steps) (length steps)
  in_turn {r} {e} {steps} P = record { met = met; stays = stays; passes = passes; and_so_on = and_so_on s (moment_of s r steps) (length steps) (listed s S P) met passes }
    where
      met : (k f : ℕ) → InForce s (moment_of s r steps k) f → k + rank_of s f ≤ length steps → Visit s (moment_of s r steps) k (k + rank_of s f)
      met k f F le = from_moment s S R r steps (omega arith) (met_from s S R (run_at s S R P k (omega arith) f F) (rank_of s f) (omega arith) (rw length-drop (omega arith)))

      stays : (k f : ℕ) → k < length steps → InForce s (moment_of s r steps k) f → 0 < rank_of s f → number_at s (moment_of s r steps) (k + 1) ≡ number_at s (moment_of s r steps) k
      stays k f lt F above = let n = next_mode s S R P k f lt F in rw add-one (ap (goal_number_of s) n.0 ∙ (R.turns_on_fact f F.exists).stays above ∙ ap (goal_number_of s) (sym n.1))

      passes : (k f : ℕ) → k < length steps → InForce s (moment_of s r steps k) f → rank_of s f ≡ 0 → number_at s (moment_of s r steps) (k + 1) ≡ next_goal s (number_at s (moment_of s r steps) k)
      passes k f lt F z =
          let n = next_mode s S R P k f lt F in
          rw add-one (ap (goal_number_of s) n.0 ∙ (R.turns_on_fact f F.exists).passes z ∙ ap (λ (m : ℕ). next_goal s (goal_number_of s m)) (sym n.1))

-- where there is one goal, its times
module _ (s : List ℕ) (one : takes_turns s ≡ false) where
  -- the goal of a mode is that of the links
  one_met : (m : ℕ) (r : RunState) → MetFor s m r → GoalMet s r
  one_met m r met l lt = rw (← (one_goal_layout s one).goal m l) (met l lt)

  pub goal_times : {moment : ℕ → RunState} {n e : ℕ} → ((k : ℕ) → k ≤ n → (f : ℕ) × InForce s (moment k) f) → InForce s (moment 0) e → InTurn s moment n
      → GoalTimes s moment n e
  goal_times {moment} {n} {e} listed F C =
      record {
        reached = λ le. let v = C.met 0 e F (omega arith) in (v.at, omega (arith, v.most), one_met _ (moment v.at) v.met);
        again = λ k le _.
            let f = listed (k + 1) (omega arith) in
            let rank = at_most_greatest (entries_of s) (rank_of s) f.0 f.1.exists in
            let v = C.met (k + 1) f.0 f.1 (omega arith) in
            (v.at, omega (arith, v.least), omega (arith, v.most), one_met _ (moment v.at) v.met);
      }
