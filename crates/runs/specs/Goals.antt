-- When goals are met, at the moments of a run of which the last is n: the goal times of HD and H2 certificates, and the goals in turn of H3
-- certificates (document 02, 6/14). A bound past moment n claims nothing.
use Rattle.std.specs.Prelude.{ℕ, zero, suc, ◌+◌, ◌*◌, ◌≤◌, ◌<◌, List, ◌≡◌}
use Rattle.certificate.specs.Loops.{greatest_to}
use Rattle.certificate.specs.Layout.{links_of, entries_of, rank_of, goal_number_of, goal_for, next_goal}
use Rattle.runs.specs.Runs.{RunState, InForce, GoalMet}

-- the greatest rank, taken over all entries
abbrev pub greatest_rank : List ℕ → ℕ
greatest_rank s = greatest_to (entries_of s) (rank_of s)

-- HD and H2, where e is the first entry
pub record GoalTimes (s : List ℕ) (moment : ℕ → RunState) (n e : ℕ) : Type 0 where
  -- the goal is met at a moment no later than the first entry's rank
  pub reached : rank_of s e ≤ n → (k : ℕ) × (k ≤ rank_of s e) × GoalMet s (moment k)
  -- after every visit it is met again, no later than greatest rank + 1 steps on
  pub again : (k : ℕ) → k + (greatest_rank s + 1) ≤ n → GoalMet s (moment k)
      → (j : ℕ) × (k < j) × (j ≤ k + (greatest_rank s + 1)) × GoalMet s (moment j)

-- H3: the goal of mode m is met: no queue exceeds it
abbrev pub MetFor : List ℕ → ℕ → RunState → Type 0
MetFor s m r = (l : ℕ) → l < links_of s → r.queue l ≤ r.scale * goal_for s m l

-- the goal number of the mode held at moment k
abbrev pub number_at : List ℕ → (ℕ → RunState) → ℕ → ℕ
number_at s moment k = goal_number_of s (moment k).mode

-- the goal of the mode held at moment k is met at a moment from k to `last`; an entry of rank 0 is in force then, and the goal number stays up to it
pub record Visit (s : List ℕ) (moment : ℕ → RunState) (k last : ℕ) : Type 0 where
  pub at : ℕ
  pub least : k ≤ at
  pub most : at ≤ last
  pub met : MetFor s (moment k).mode (moment at)
  pub entry : ℕ
  pub in_force : InForce s (moment at) entry
  pub rank : rank_of s entry ≡ 0
  pub stays : (i : ℕ) → k ≤ i → i ≤ at → number_at s moment i ≡ number_at s moment k

-- the number i goals after number n
unfoldable pub turned : List ℕ → ℕ → ℕ → ℕ
turned s zero n = n
turned s (suc i) n = next_goal s (turned s i n)

-- the goal i numbers after that of moment k is met, with its number held and rank 0 in force, sooner than (i + 1) × (greatest rank + 1) steps on
pub record GoalInTurn (s : List ℕ) (moment : ℕ → RunState) (i k : ℕ) : Type 0 where
  pub at : ℕ
  pub least : k ≤ at
  pub most : at < k + (i + 1) * (greatest_rank s + 1)
  pub number : number_at s moment at ≡ turned s i (number_at s moment k)
  pub met : MetFor s (moment at).mode (moment at)
  pub entry : ℕ
  pub in_force : InForce s (moment at) entry
  pub rank : rank_of s entry ≡ 0

-- and so on, however long the list: from every moment, for every number of turns
abbrev pub AndSoOn : List ℕ → (ℕ → RunState) → ℕ → Type 0
AndSoOn s moment n = (i k : ℕ) → k + (i + 1) * (greatest_rank s + 1) ≤ n + 1 → GoalInTurn s moment i k

pub record InTurn (s : List ℕ) (moment : ℕ → RunState) (n : ℕ) : Type 0 where
  -- from every moment the goal of the mode then held is met within the rank then in force
  pub met : (k f : ℕ) → InForce s (moment k) f → k + rank_of s f ≤ n → Visit s moment k (k + rank_of s f)
  -- a step from a rank above 0 keeps the goal number; one from rank 0 passes to the next, 0 after the greatest
  pub stays : (k f : ℕ) → k < n → InForce s (moment k) f → 0 < rank_of s f → number_at s moment (k + 1) ≡ number_at s moment k
  pub passes : (k f : ℕ) → k < n → InForce s (moment k) f → rank_of s f ≡ 0 → number_at s moment (k + 1) ≡ next_goal s (number_at s moment k)
  pub and_so_on : AndSoOn s moment n
