-- The flow rule in plain terms: the least is sent, no vehicle is made or lost, red links pull nothing. Assumes nothing.
use Prim.Native.Nat.{ℕ, zero, suc, ◌+◌, ◌*◌, ◌<◌}
use mathlib.Core.Bool.{Bool, true, false}
use mathlib.Core.Path.{◌≡◌, refl, ◌∙◌}
use native.Mathlib.Omega.{arith}
use borrow.Author.Tests.{eqb-true}
use lib.Dec.{eqb}
use Rattle.certificate.specs.Loops.{pick, sum_to}
use Rattle.certificate.proofs.Loops.{sum_none}
use Rattle.certificate.proofs.BitLaws.{bits_are}
use Rattle.network.specs.Network.{Network}
use Rattle.network.specs.Flow.{sent, passed_in, gross}
use Rattle.network.specs.Conditions.{pull_sum}
use Rattle.network.specs.Laws.{SentIsLeast, Conserved, GreenByte, RedPullsNothing}
use Rattle.network.proofs.Sending.{sent_queue, sent_limit, sent_supply, sent_most}
use Rattle.network.proofs.Sums.{by_link}

pub sent_is_least : SentIsLeast
sent_is_least N limit D x j =
    record {
      by_queue = sent_queue N limit D x j;
      by_limit = sent_limit N limit D x j;
      by_room = λ t lt e. sent_supply N limit D x t j lt e;
      no_less = λ k q m r. sent_most N limit D x j k q m r;
    }

module _ (N : Network) (limit : ℕ → ℕ) (D : ℕ) (x a : ℕ → ℕ) where
  -- one link: what it sends was waiting there
  on_link : (l : ℕ) → gross N limit D x a l + 100 * sent N limit D x l ≡ 10000 * x l + 10000 * a l + passed_in N limit D x l
  unfolding gross
  on_link l = omega (arith, sent_queue N limit D x l)

  -- all of n links
  on_links : (n : ℕ) → sum_to n (gross N limit D x a) + 100 * sum_to n (sent N limit D x)
      ≡ 10000 * sum_to n x + 10000 * sum_to n a + sum_to n (passed_in N limit D x)
  unfolding sum_to
  on_links zero = refl
  on_links (suc n) = omega (arith, on_links n, on_link n)

pub conserved : Conserved
unfolding passed_in
conserved N J limit D x a =
    on_links N limit D x a N.links
    ∙ rw (by_link N.links N.turns N.to (λ t. N.share t * sent N limit D x (N.from t)) J.to_link)

pub green_byte : GreenByte
green_byte s R g lt = bits_are _ _ (R.signal g lt).absent_red

pub red_pulls_nothing : RedPullsNothing
unfolding pull_sum
red_pulls_nothing N green l red = sum_none N.turns _ (λ t lt. one t lt (eqb (N.to t) l) refl)
  where
    one : (t : ℕ) → t < N.turns → (q : Bool) → eqb (N.to t) l ≡ q → pick q (pick (green (N.from t)) (N.share t * N.pull t) 0) 0 ≡ 0
    one t lt true e = rw (red t lt (eqb-true _ _ e))
    one t lt false e = refl
