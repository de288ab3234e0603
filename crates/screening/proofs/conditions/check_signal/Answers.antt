use Rattle.std.proofs.Common.{ℕ, ◌≡◌, ◌<◌, List, leb, arith, refl, ◌∙◌}
use Rattle.certificate.specs.Octets.{bit_of}
use Rattle.certificate.specs.Checks.{report_with, fine, need}
use Rattle.certificate.specs.Layout.{links_of, green_byte_of}
use Rattle.network.specs.Network.{network_of}
use Rattle.network.specs.Conditions.{pull_sum, pull_fault, signal_pulls_fault}
use Rattle.octets.proofs.Outcomes.{go_on, stop, end}
use Rattle.screening.proofs.conditions.check_signal.Goals as goal
use Rattle.screening.proofs.conditions.check_signal.Goals.{In-loop-l}

-- the link's test is that of the definition
by_sum : (s : List ℕ) (g l byte sum : ℕ) → byte ≡ green_byte_of s g → sum ≡ pull_sum (network_of s) (bit_of byte) l → need (leb sum 10000) (report_with 10 g l 0) fine ≡ pull_fault s g l
unfolding pull_fault
by_sum s g l byte sum eb es = rw (es, eb)

there : (c : In-loop-l) → c.loop-l.l < links_of c.args.certificate.now.bytes.now
there c = omega (arith, c.args.certificate.now.laid.links_are)

pub loop-l-init : goal.loop-l-init
unfolding signal_pulls_fault
loop-l-init c = refl

pub returns-in_err-check_pull : goal.returns-in_err-check_pull
returns-in_err-check_pull c =
    let lt = there ((goal.at.returns-in_err-check_pull c).In-loop-l) in
    stop _ _ c.from_residual.ensures.1 _ _ _ _ lt (c.in_err-check_pull.ensures ∙ by_sum _ _ _ _ _ c.green_byte_of.ensures.0 (c.pull_sums-sums.ensures _ lt)) c.loop-l.invariant

pub loop-l-preserved : goal.loop-l-preserved
loop-l-preserved c =
    let lt = there ((goal.at.loop-l-preserved c).In-loop-l) in
    go_on _ _ _ _ lt (c.in_ok-check_pull.ensures ∙ by_sum _ _ _ _ _ c.green_byte_of.ensures.0 (c.pull_sums-sums.ensures _ lt)) c.loop-l.invariant

pub returns : goal.returns
returns c = end _ _ _ _ (omega (arith, c.args.certificate.now.laid.links_are)) c.loop-l.invariant
