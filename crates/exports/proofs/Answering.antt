-- How a call's contract follows from what the call did. Assumes nothing.
use Rattle.std.proofs.Common.{◌≡◌, ℕ, ◌≤◌, List, ◌++◌, length, get_or, drop, arith}
use Rattle.exports.specs.Exported.{Called}

-- `out` has room
pub all_done : {numbers due before after out out' : List ℕ} {r : ℕ} → length numbers ≤ length out
    → (r ≡ get_or numbers 0 0) × (out' ≡ numbers ++ drop (length numbers) out) → after ≡ due → Called numbers due before after out out' r
all_done h e d = record { answer = record { filled = λ k. e; short = λ k. absurd (omega arith) }; done = λ k. d; undone = λ k. absurd (omega arith) }
