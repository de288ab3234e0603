-- The limits of a step: at most flow, and in HD as if there were no start flow. Assumes nothing.
use Prim.Native.Nat.{ℕ, ◌≤◌, ◌<◌}
use mathlib.Core.List.{List}
use mathlib.Core.Bool.{Bool, true, false}
use mathlib.Core.Path.{◌≡◌, refl}
use native.Mathlib.Omega.{arith}
use Rattle.certificate.specs.Loops.{pick}
use Rattle.certificate.specs.Layout.{links_of, flow_of, start_flow_of}
use Rattle.certificate.specs.Facts.{Readable}
use Rattle.certificate.proofs.KindLaws.{plain_layout}
use Rattle.network.specs.Network.{is_green, limit_of}
use Rattle.network.specs.Laws.{PlainLimits, StaysGreen, TurnsGreen}

pick_same : (b : Bool) (n : ℕ) → pick b n n ≡ n
pick_same true n = refl
pick_same false n = refl

pub plain_limits : PlainLimits
plain_limits s e h g l = rw ((plain_layout s e).start_flow l, pick_same (is_green s h l) (flow_of s l))

-- the limit of a green link, by whether it was green before
limit_by_lem : (q p c : Bool) (flow start : ℕ) → q ≡ c → p ≡ true → pick p (pick q flow start) 0 ≡ pick c flow start
limit_by_lem q p c flow start before now = rw (now, before)

pub stays_green : StaysGreen
stays_green s h g l before now = limit_by_lem (is_green s h l) (is_green s g l) true (flow_of s l) (start_flow_of s l) before now

pub turns_green : TurnsGreen
turns_green s h g l before now = limit_by_lem (is_green s h l) (is_green s g l) false (flow_of s l) (start_flow_of s l) before now

-- what a link may send is at most its flow
pub limit_most : (s : List ℕ) → Readable s → (h g l : ℕ) → l < links_of s → limit_of s h g l ≤ flow_of s l
limit_most s R h g l lt = go (is_green s g l) (is_green s h l) (R.link l lt).start_most
  where
    go : (p q : Bool) {n m : ℕ} → m ≤ n → pick p (pick q n m) 0 ≤ n
    go true true h = omega arith
    go true false h = omega arith
    go false q h = omega arith
