-- The supplies of some turns and their two least: of none, and of one turn more. Assumes nothing.
use Rattle.std.proofs.Common.{ℕ, ◌≡◌, ◌+◌, ◌≤◌, ◌<◌, min, max, List, length, arith, ◌∙◌}
use Rattle.std.proofs.Math.ListN.{set, length-set}
use Rattle.octets.proofs.FilledTables.{entries_more}
use Rattle.supply.specs.declared.Two.{Two}
use Rattle.supply.specs.Supply.{supply_at, Supplies}
use Rattle.supply.proofs.TwoLeast.{two_none, two_more}

module _ (s : List ℕ) (x : ℕ → ℕ) (from : ℕ) (rooms : List ℕ) where
  pub no_supplies : length rooms ≡ 32 → Supplies s x from from (record { of_turn = rooms; two = record { least = 1000000; next = 1000000 } })
  no_supplies long = record { long = long; room = λ t le lt. absurd (omega arith); two_least = two_none _ _ }

  pub supplies_more : (t v : ℕ) (two more : Two) → Supplies s x from t (record { of_turn = rooms; two = two }) → from ≤ t → t < 32 → v ≡ supply_at s x t
      → (more.least ≡ min v two.least) × (more.next ≡ min (max v two.least) two.next) → Supplies s x from (t + 1) (record { of_turn = set rooms t v; two = more })
  supplies_more t v two more S le lt e (least, next) =
      record {
        long = length-set rooms t v ∙ S.long;
        room = λ k from_k k_t. entries_more 0 (λ k v. from ≤ k → v ≡ supply_at s x k) t rooms v (omega (arith, S.long)) (λ k k_t from_k. S.room k from_k k_t) (λ _. e) k k_t from_k;
        two_least = two_more _ _ _ _ _ _ S.two_least le e least next;
      }
