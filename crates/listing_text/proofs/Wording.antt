-- The lines in quoted text, and how a text goes to a buffer. Assumes nothing.
use Prim.Native.Nat.{ℕ, ◌<◌}
use mathlib.Core.Bool.{Bool, true, false, cond}
use mathlib.Core.Path.{◌≡◌, refl}
use native.Mathlib.Omega.{arith}
use borrow.Author.Tests.{le-leb, lt-leb, leb-false}
use lib.ListN.{length}
use lib.Dec.{leb}
use Rattle.certificate.specs.Checks.{report_with, refusal, need}
use Rattle.listing_text.specs.Lines.{counts_line, entry_line, accepted_line, refused_line}
use Rattle.listing_text.specs.Listing.{send_report, send_buffer}
use Rattle.listing_text.specs.Laws.{bytes_of, LinesWorded, SendIsPlain, ListCalls}

pub lines_worded : LinesWorded
unfolding bytes_of counts_line entry_line accepted_line refused_line
lines_worded s = record { counts = refl; entry = λ e. refl; accepted = λ r n. refl; refused = λ r. refl }

pub send_is_plain : SendIsPlain
unfolding send_report send_buffer need
send_is_plain words buffer =
    record {
      short = ((λ e. longer e (leb (length words) (length buffer)) refl), (λ lt. rw (lt-leb _ _ lt)));
      kept = λ lt. rw (lt-leb _ _ lt);
      done = λ le. rw (le-leb _ _ le);
      put = λ le. rw (le-leb _ _ le);
    }
  where
    longer : (cond (leb (length words) (length buffer)) (report_with 0 (length words) 0 0) (refusal 17 0)).number ≡ 17
        → (b : Bool) → leb (length words) (length buffer) ≡ b → length buffer < length words
    longer e true t = let z : ◌≡◌ {A = ℕ} 0 17 = rw t at e in absurd (omega arith)
    longer e false t = leb-false _ _ t

pub list_calls : ListCalls
list_calls s buffer = record { report = refl; bytes = refl }
