-- An array's bytes are a certificate where they are screened; what is found in them, shown, is the query's answer. Assumes nothing.
use Prim.Native.Nat.{ℕ}
use mathlib.Core.List.{List}
use mathlib.Core.Bool.{Bool, true, false, ◌&&◌, cond}
use mathlib.Core.Path.{◌≡◌, refl, ◌∙◌}
use lib.Dec.{leb, eqb}
use lib.ListN.{length, take}
use lib.Seq.{length-take-le}
use native.Mathlib.Omega.{arith}
use borrow.Author.Tests.{leb-true}
use Rattle.certificate.proofs.Tests.{and_both}
use Rattle.certificate.specs.declared.Report.{Report}
use Rattle.certificate.specs.Checks.{refusal, fine, need}
use Rattle.certificate.specs.Layout.{max_length}
use Rattle.certificate.proofs.Tests.{need_fail}
use Rattle.octets.specs.declared.refusals.Refused.{Refused}
use Rattle.octets.specs.Refusals.{report_of}
use Rattle.octets.proofs.Outcomes.{need_holds, need_fails}
use Rattle.network.specs.Conditions.{screening_of}
use Rattle.controller.specs.declared.Controller.{Controller}
use Rattle.controller.specs.declared.Shown.{Shown}
use Rattle.controller.specs.State.{stored, is_certificate, holds_certificate}
use Rattle.judging.specs.Lookup.{entry_for}
use Rattle.judging.specs.Asking.{cell_fault, lookup_fault}
use Rattle.controller.specs.Query.{query_fault, showing, refused, query_of}
use Rattle.asking.specs.FoundEntries.{Answer, stored_fault, held_fault, found_at, not_found, cell_found, lookup_of, asked_of}
use Rattle.controller.specs.Parts.{shown_by}

-- the first n bytes of a state's array are a certificate exactly where they pass
pub holds_test : (bytes : List ℕ) (n : ℕ) → length bytes ≡ max_length → is_certificate bytes n ≡ eqb (stored_fault bytes n).number 0
unfolding is_certificate stored_fault need
holds_test bytes n size = rw size (go (leb n max_length))
  where
    go : (b : Bool) → (b && eqb (screening_of (take n bytes)).number 0) ≡ eqb (cond b (screening_of (take n bytes)) (refusal 18 0)).number 0
    go true = refl
    go false = refl

-- a state's stored bytes are a certificate, or the refusal is 18
module _ (c : Controller) (size : length c.bytes ≡ max_length) where
  pub held : fine ≡ held_fault c.bytes c.len → (holds_certificate c ≡ true) × (length (stored c) ≡ c.len)
  unfolding held_fault is_certificate
  held p =
      let ok : holds_certificate c ≡ true = holds_test c.bytes c.len size ∙ need_holds _ 17 _ p in
      (ok, length-take-le c.len c.bytes (omega (arith, leb-true _ _ (and_both (leb c.len max_length) _ ok).0)))

  pub not_held : (e : Refused) → report_of e ≡ held_fault c.bytes c.len → (holds_certificate c ≡ false) × (report_of e ≡ refusal 18 0)
  unfolding held_fault
  not_held e p =
      let none = need_fails _ _ _ e p in
      (holds_test c.bytes c.len size ∙ none, p ∙ need_fail _ _ _ none)

-- what is due where the tests end in f: entry e is shown, or f refuses
abbrev pub due : Controller → ℕ → Report → Shown
due c e f = cond (eqb f.number 0) (showing c e) (refused c f)

-- what is found, shown: for a cell, and behind a test
module _ (c : Controller) where
  pub cell_shown : (d : ℕ) → shown_by c (cell_found (stored c) c.mode d) ≡ due c (entry_for (stored c) d c.mode) (cell_fault (stored c) c.mode d)
  unfolding cell_found
  cell_shown d = go (eqb fault.number 0)
    where
      fault : Report
      fault = cell_fault (stored c) c.mode d

      e : ℕ
      e = entry_for (stored c) d c.mode

      go : (b : Bool) → shown_by c (cond b (found_at (stored c) e) (not_found fault c.mode)) ≡ cond b (showing c e) (refused c fault)
      go true = refl
      go false = refl

  pub test_shown : (b : Bool) (n e : ℕ) (next : Answer) (f : Report) → eqb n 0 ≡ false → shown_by c next ≡ due c e f
      → shown_by c (cond b next (not_found (refusal n 0) c.mode)) ≡ due c e (need b (refusal n 0) f)
  unfolding need
  test_shown true n e next f some h = h
  test_shown false n e next f some h = rw some refl

-- what is found in the stored bytes, shown, is the query's answer
pub query_asks : (c : Controller) (queues : List ℕ) (scale : ℕ) → length c.bytes ≡ max_length
    → shown_by c (asked_of c.bytes c.len c.mode queues scale) ≡ query_of c queues scale
unfolding asked_of lookup_of query_of query_fault lookup_fault
query_asks c queues scale size =
    rw (holds_test c.bytes c.len size) (test_shown c _ 18 _ _ _ refl (test_shown c _ 16 _ _ _ refl (cell_shown c _)))
