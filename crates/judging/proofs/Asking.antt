-- What refusal 16 asks of a query. Assumes nothing.
use Prim.Native.Nat.{ℕ, ◌*◌}
use mathlib.Core.List.{List}
use mathlib.Core.Bool.{Bool}
use borrow.Author.Tests.{leb-true, le-leb}
use lib.Dec.{leb}
use Rattle.certificate.specs.Layout.{links_of, cap_of}
use Rattle.certificate.proofs.Loops.{every-each, each-every}
use Rattle.certificate.proofs.Says.{tests-say}
use Rattle.judging.proofs.Deciding.{Tells}
use Rattle.judging.specs.Asking.{queue_at, is_proper, Proper}

pub proper_tells : (s queues : List ℕ) (scale : ℕ) → Tells (is_proper s queues scale) (Proper s queues scale)
unfolding is_proper
proper_tells s queues scale =
    simp tests-say (
      λ h. record { scale_least = h.0.0.0; scale_most = h.0.0.1; number = h.0.1; queue_most = λ l lt. leb-true _ _ (every-each (links_of s) most h.1 l lt) },
      λ p. (((p.scale_least, p.scale_most), p.number), each-every (links_of s) most (λ l lt. le-leb _ _ (p.queue_most l lt))),
    )
  where
    most : ℕ → Bool
    most l = leb (queue_at queues l) (cap_of s l * scale)
