use Rattle.std.proofs.Common.{rules, ◌≡◌, ◌≤◌, ◌+◌, arith, sym, ap, ◌∙◌, length, List, ℕ}
use Rattle.std.proofs.lemmas.Result.{err_from_is_err_and}
use borrow.Rule.Slice.PartMut.{Post-is}
use Rattle.certificate.specs.Layout.{max_length}
use Rattle.controller.proofs.Copying.{copied_more, copied_all}
use Rattle.controller.proofs.Held.{held, not_held}
use Rattle.controller.proofs.Writings.{wrote, too_short, none_held}
use Rattle.controller.proofs.Controller.write_stored.Goals as goal
use Rattle.controller.proofs.Controller.write_stored.Goals.{then-start-buffer-via-then-start-buffer, then-start-buffer-via-else-start-buffer+then-buffer-start}

pub returns-in_err-certificate-clause-wrote : goal.returns-in_err-certificate-clause-wrote
returns-in_err-certificate-clause-wrote c =
    let a = c.args in
    let size : length a.self.now.bytes ≡ max_length = search rules in
    let none = not_held a.self.now size _ c.in_err-certificate.ensures.told_is in
    let w = none_held a.self.now.bytes a.self.now.len a.buffer.now a.start none.0 in
    let p = err_from_is_err_and c.from_residual.result c.from_residual.ensures.1 in
    (rw (p.1, p.2) (none.1 ∙ sym w.0), sym w.1)

pub returns-then-start-buffer-clause-wrote : goal.returns-then-start-buffer-clause-wrote
returns-then-start-buffer-clause-wrote c =
    let a = c.args in
    let size : length a.self.now.bytes ≡ max_length = search rules in
    let ok = held a.self.now size c.in_ok-certificate.ensures.told_is in
    let n : length c.in_ok-certificate.certificate.bytes.now ≡ a.self.now.len = ap (λ (b : List ℕ). length b) c.in_ok-certificate.ensures.bytes_are ∙ ok.1 in
    let short : a.start + a.self.now.len ≤ length a.buffer.now → ⊥ =
    elim c.then-start-buffer.branch [
      | then-start-buffer-via-then-start-buffer w ↦ (λ r. omega (arith, w.if-start-buffer.true))
      | then-start-buffer-via-else-start-buffer+then-buffer-start w ↦ (λ r. omega (arith, w.if-buffer-start.true))
    ] in
    let w = too_short a.self.now.bytes a.self.now.len a.buffer.now a.start ok.0 short in
    (c.refuse.ensures ∙ sym w.0, sym w.1)

pub loop-i-preserved : goal.loop-i-preserved
loop-i-preserved c = copied_more c.loop-i.i c.loop-i.invariant (omega arith) (omega arith)

pub returns-clause-wrote : goal.returns-clause-wrote
returns-clause-wrote c =
    let a = c.args in
    let size : length a.self.now.bytes ≡ max_length = search rules in
    let bytes = c.in_ok-certificate.ensures.bytes_are in
    let ok = held a.self.now size c.in_ok-certificate.ensures.told_is in
    let n : length c.in_ok-certificate.certificate.bytes.now ≡ a.self.now.len = ap (λ (b : List ℕ). length b) bytes ∙ ok.1 in
    let w = wrote a.self.now.bytes a.self.now.len a.buffer.now a.start ok.0 (omega (arith, c.if-start-buffer.false, c.if-buffer-start.false)) in
    let copied = copied_all c.loop-i.i c.loop-i.invariant (omega arith) (omega arith) in
    (rw n (sym w.0), rw (n, Post-is a.start (a.start + a.self.now.len) a.buffer.now (omega arith), copied, bytes) (sym w.1))
