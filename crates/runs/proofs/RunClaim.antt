-- Demand 3: the run claim holds of every certificate whose verdict is 0; and the scale and the memory at every moment. Assumes nothing.
use Prim.Native.Nat.{ℕ}
use mathlib.Core.List.{List}
use mathlib.Core.Path.{refl}
use Rattle.certificate.specs.Layout.{links_of}
use Rattle.certificate.specs.Facts.{Readable}
use Rattle.judging.proofs.Verdicts.{accepted_is_plain}
use Rattle.runs.specs.Laws.{RunTheorem, MomentScale, MomentRemembers}
use Rattle.runs.proofs.Fractions.{scale_least}
use Rattle.runs.specs.Runs.{RunState, Step, after}
use Rattle.runs.specs.Claim.{Kept}
use Rattle.runs.proofs.Steps.{Steady, steady}
use Rattle.runs.proofs.Moments.{scale_at, remembered_at, Run, listed}
use Rattle.runs.proofs.Turning.{in_turn, goal_times}

pub moment_scale : MomentScale
moment_scale s mode queues steps Q P k = scale_at s _ steps (scale_least queues (links_of s) Q.count Q.scales) P k

pub moment_remembers : MomentRemembers
moment_remembers s R mode queues steps k = remembered_at s R _ steps (λ _. refl) k

kept : (s : List ℕ) → Steady s → Readable s → {r : RunState} {e : ℕ} {steps : List Step} → Run s r e steps → Kept s r steps e
unfolding after
kept s S readable P =
    let C = in_turn s S readable P in
    record {
      listed = listed s S P;
      safe = λ k le. S.safe _ _ (listed s S P k le).1;
      times = λ one. goal_times s one (listed s S P) P.in_force C;
      turns = λ _. C;
    }

pub run_theorem : RunTheorem
run_theorem s accepted mode queues steps e Q P F =
    let plain = (accepted_is_plain s).0 accepted in
    let scale = scale_least queues (links_of s) Q.count Q.scales in
    let S = steady s plain.0 plain.1 in
    kept s S plain.0.readable (record { scale = scale; in_force = F; remembered = λ _. refl; proper = P })
