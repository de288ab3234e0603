-- Certificates that differ only in ranks are answered alike: every test and every field that a query or a poll goes by is the same. Assumes nothing.
use Prim.Native.Nat.{ℕ, ◌*◌, ◌<◌}
use mathlib.Core.List.{List, [], ◌∷◌}
use mathlib.Core.Bool.{Bool, true, false, cond}
use mathlib.Core.Path.{◌≡◌, refl, sym, ap, ◌∙◌}
use native.Mathlib.Omega.{arith}
use borrow.Author.Tests.{ltb-true, eqb-true}
use lib.Dec.{eqb, leb}
use lib.Ieee.Positive.{num, den}
use Rattle.certificate.specs.declared.Report.{Report}
use Rattle.certificate.specs.Loops.{every}
use Rattle.certificate.specs.Checks.{refusal, need, first_bad}
use Rattle.certificate.specs.Layout.{links_of, cap_of, green_byte_of, entries_of, signal_of, next_mode_of}
use Rattle.certificate.specs.Facts.{Readable}
use Rattle.certificate.specs.Entries.{DifferInRanks}
use Rattle.certificate.proofs.Loops.{find_same, every_same}
use Rattle.certificate.proofs.Tests.{need_pass, need_both, or_both, first_same}
use Rattle.certificate.proofs.Front.{links_same, cap_same, green_same}
use Rattle.certificate.proofs.Ranks.{before, entries_same, cell_of_same, mode_of_same, signal_of_same, next_mode_same}
use Rattle.grid.specs.Cells.{cell_at}
use Rattle.grid.proofs.Numbers.{number_same}
use Rattle.grid.proofs.Alike.{cell_alike}
use Rattle.judging.specs.Lookup.{entry_for, is_listed}
use Rattle.judging.specs.Asking.{queue_at, is_proper, cell_asked, cell_fault, lookup_fault}
use Rattle.judging.specs.Verdict.{verdict_of}
use Rattle.judging.proofs.Verdicts.{accepted_is_plain}
use Rattle.controller.specs.declared.Controller.{Controller}
use Rattle.controller.specs.declared.Shown.{Shown}
use Rattle.controller.specs.State.{holding, stored, holds_certificate}
use Rattle.controller.specs.Query.{query_fault, showing, refused, query_of}
use Rattle.controller.specs.Laws.{HoldsCertificate}
use Rattle.controller.proofs.Holding.{holds_is_plain, holds_in_mode, accepted_holds, load_accepted}
use Rattle.detectors.specs.declared.LinkReadings.{LinkReadings}
use Rattle.detectors.specs.Polls.{readings_of, level_at, level_fault, levels_fault, cell_of_queues, cell_polled, readings_fault, polled_fault}
use Rattle.polls.specs.Poll.{poll_fault, poll_of}
use Rattle.polls.specs.Laws.{Call, call_of, after_calls, SameToCabinet, RanksUnseen}
use Rattle.polls.specs.Laws.Call.{query, poll}

module _ {s t : List ℕ} (R : Readable s) (D : DifferInRanks s t) where
  links : links_of s ≡ links_of t
  links = links_same R (before R D)

  caps : (l : ℕ) → l < links_of s → cap_of s l ≡ cap_of t l
  caps = cap_same R (before R D)

  -- 19, and the entry
  entry_same : (d m : ℕ) → entry_for s d m ≡ entry_for t d m
  unfolding entry_for
  entry_same d m = find_same _ _ _ _ (entries_same R D) (λ e lt. rw (cell_of_same R D e, mode_of_same R D e))

  cell_fault_same : (m d : ℕ) → cell_fault s m d ≡ cell_fault t m d
  unfolding cell_fault is_listed
  cell_fault_same m d = rw (entry_same d m, entries_same R D)

  -- 16 and the cell of a query
  proper_same : (queues : List ℕ) (scale : ℕ) → is_proper s queues scale ≡ is_proper t queues scale
  unfolding is_proper
  proper_same queues scale =
      let fit : every (links_of s) (λ l. leb (queue_at queues l) (cap_of s l * scale)) ≡ every (links_of t) (λ l. leb (queue_at queues l) (cap_of t l * scale)) =
      every_same (links_of s) _ _ (λ l lt. rw (caps l lt)) ∙ ap (λ (n : ℕ). every n (λ l. leb (queue_at queues l) (cap_of t l * scale))) links in
      rw (fit, links)

  asked_same : (queues : List ℕ) (scale : ℕ) → cell_asked s queues scale ≡ cell_asked t queues scale
  unfolding cell_at
  asked_same queues scale = cell_alike R (before R D) (λ _. scale) (queue_at queues)

  lookup_same : (m : ℕ) (queues : List ℕ) (scale : ℕ) → lookup_fault s m queues scale ≡ lookup_fault t m queues scale
  unfolding lookup_fault
  lookup_same m queues scale = rw (proper_same queues scale, asked_same queues scale, cell_fault_same)

  -- 16, 20, 21 and the cell of a poll
  module _ (r : ℕ → LinkReadings) where
    level_same : (l : ℕ) → l < links_of s → level_at s r l ≡ level_at t r l
    level_same l lt = rw (caps l lt)

    levels_same : levels_fault s r ≡ levels_fault t r
    levels_same =
        first_same (links_of s) (level_fault s r) (level_fault t r) (λ l lt _. unfold level_fault in rw (level_same l lt))
        ∙ ap (λ (n : ℕ). first_bad n (level_fault t r)) links

    polled_same : cell_polled s r ≡ cell_polled t r
    unfolding cell_of_queues
    polled_same =
        number_same s _ _ (links_of s) (λ l lt. rw (level_same l lt))
        ∙ cell_alike R (before R D) (λ l. den (level_at t r l).queue) (λ l. num (level_at t r l).queue)

    readings_same : (m : ℕ) → readings_fault s m r ≡ readings_fault t m r
    unfolding readings_fault
    readings_same m = rw (levels_same, polled_same, cell_fault_same)

  poll_same : (m : ℕ) (p : List ℕ) → polled_fault s m p ≡ polled_fault t m p
  unfolding polled_fault
  poll_same m p = rw (links, readings_same (readings_of p) m)

-- what passes has an entry
listed_exists : (s : List ℕ) (m d : ℕ) → (cell_fault s m d).number ≡ 0 → entry_for s d m < entries_of s
unfolding cell_fault is_listed
listed_exists s m d z = ltb-true _ _ (need_both _ _ _ (λ e. omega arith) z).0

asked_exists : (s : List ℕ) (m : ℕ) (queues : List ℕ) (scale : ℕ) → (lookup_fault s m queues scale).number ≡ 0 → entry_for s (cell_asked s queues scale) m < entries_of s
unfolding lookup_fault
asked_exists s m queues scale z = listed_exists s m _ (need_both _ _ _ (λ e. omega arith) z).1

polled_exists : (s : List ℕ) (m : ℕ) (p : List ℕ) → (polled_fault s m p).number ≡ 0 → entry_for s (cell_polled s (readings_of p)) m < entries_of s
unfolding polled_fault readings_fault
polled_exists s m p z = listed_exists s m _ (or_both _ _ (need_both _ _ _ (λ e. omega arith) z).1).1

-- two states that hold such certificates in one mode
pub record Twin (s t : List ℕ) (c d : Controller) : Type 0 where
  pub left : stored c ≡ s
  pub right : stored d ≡ t
  pub held : HoldsCertificate c
  pub held' : HoldsCertificate d
  pub mode : c.mode ≡ d.mode

-- two answers that are the same to the cabinet, and leave such states
abbrev pub Alike : List ℕ → List ℕ → Shown → Shown → Type 0
Alike s t r q = SameToCabinet r q × Twin s t r.state q.state

-- the tests of a state: 18, then those of its certificate in its mode
abbrev tested : Controller → (List ℕ → ℕ → Report) → Report
tested c fault = need (holds_certificate c) (refusal 18 0) (fault (stored c) c.mode)

-- what is answered where the tests end in f and the entry is e
abbrev answered : Controller → Report → ℕ → Shown
answered c f e = cond (eqb f.number 0) (showing c e) (refused c f)

module _ {s t : List ℕ} (R : Readable s) (D : DifferInRanks s t) (c d : Controller) (T : Twin s t c d) where
  answered_alike : (f : Report) (e : ℕ) → (f.number ≡ 0 → e < entries_of s) → Alike s t (answered c f e) (answered d f e)
  answered_alike f e exists = go (eqb f.number 0) refl
    where
      go : (b : Bool) → eqb f.number 0 ≡ b → Alike s t (cond b (showing c e) (refused c f)) (cond b (showing d e) (refused d f))
      go true q =
          let inside : e < entries_of s = exists (eqb-true _ _ q) in
          let signal : signal_of (stored c) e ≡ signal_of (stored d) e = rw (T.left, T.right) (signal_of_same R D e) in
          let next : next_mode_of (stored c) e ≡ next_mode_of (stored d) e = rw (T.left, T.right) (next_mode_same R D e) in
          let green : green_byte_of (stored c) (signal_of (stored c) e) ≡ green_byte_of (stored d) (signal_of (stored c) e) =
          rw (T.left, T.right) (green_same R (before R D) (signal_of s e) (R.entry e inside).signal) in
          (record { report = refl; signal = signal; green = cc; mode = next }, record { left = T.left; right = T.right; held = holds_in_mode c _ T.held; held' = holds_in_mode d _ T.held'; mode = next })
      go false q = (record { report = refl; signal = refl; green = refl; mode = T.mode }, T)

  -- tests and an entry that go by the certificate and the mode, and are the same in s and t
  by_tests : (fault : List ℕ → ℕ → Report) (entry : List ℕ → ℕ → ℕ) → ((m : ℕ) → fault s m ≡ fault t m) → ((m : ℕ) → entry s m ≡ entry t m)
      → ((m : ℕ) → (fault s m).number ≡ 0 → entry s m < entries_of s)
      → Alike s t (answered c (tested c fault) (entry (stored c) c.mode)) (answered d (tested d fault) (entry (stored d) d.mode))
  by_tests fault entry faults entries exists =
      let fc : tested c fault ≡ fault s c.mode = need_pass _ _ _ ((holds_is_plain c).1 T.held) ∙ rw T.left in
      let fd : tested d fault ≡ fault s c.mode = need_pass _ _ _ ((holds_is_plain d).1 T.held') ∙ rw (T.right, ← T.mode) (sym (faults _)) in
      let ec : entry (stored c) c.mode ≡ entry s c.mode = rw T.left in
      let ed : entry (stored d) d.mode ≡ entry s c.mode = rw (T.right, ← T.mode) (sym (entries _)) in
      rw (fc, fd, ec, ed) (answered_alike _ _ (exists c.mode))

  query_alike : (queues : List ℕ) (scale : ℕ) → Alike s t (query_of c queues scale) (query_of d queues scale)
  unfolding query_of query_fault
  query_alike queues scale =
      by_tests (λ x m. lookup_fault x m queues scale) (λ x m. entry_for x (cell_asked x queues scale) m)
      (λ m. lookup_same R D m queues scale)
      (λ m. rw (asked_same R D queues scale) (entry_same R D _ m))
      (λ m. asked_exists s m queues scale)

  poll_alike : (p : List ℕ) → Alike s t (poll_of c p) (poll_of d p)
  unfolding poll_of poll_fault
  poll_alike p =
      by_tests (λ x m. polled_fault x m p) (λ x m. entry_for x (cell_polled x (readings_of p)) m)
      (λ m. poll_same R D m p)
      (λ m. rw (polled_same R D (readings_of p)) (entry_same R D _ m))
      (λ m. polled_exists s m p)

  pub call_alike : (k : Call) → Alike s t (call_of c k) (call_of d k)
  unfolding call_of
  call_alike (query q) = query_alike q.queues q.scale
  call_alike (poll p) = poll_alike p

-- and so after every list of calls
after_alike : {s t : List ℕ} → Readable s → DifferInRanks s t → (c d : Controller) (ks : List Call) → Twin s t c d → Twin s t (after_calls c ks) (after_calls d ks)
unfolding after_calls
after_alike R D c d [] T = T
after_alike R D c d (k ∷ ks) T = after_alike R D (call_of c k).state (call_of d k).state ks (call_alike R D c d T k).1

-- the states after the loads
pub loaded_alike : (s t : List ℕ) → (verdict_of s).number ≡ 0 → (verdict_of t).number ≡ 0 → Twin s t (holding s) (holding t)
loaded_alike s t ok ok' =
    let one = accepted_holds s ok in
    let other = accepted_holds t ok' in
    record { left = one.1; right = other.1; held = one.0; held' = other.0; mode = refl }

pub ranks_unseen : RanksUnseen
ranks_unseen c d s t ks ok ok' D =
    let R = ((accepted_is_plain s).0 ok).0.readable in
    let now = after_alike R D _ _ ks (loaded_alike s t ok ok') in
    rw (load_accepted c s ok, load_accepted d t ok') (record {
      mode = now.mode;
      query = λ queues scale. (query_alike R D _ _ now queues scale).0;
      poll = λ p. (poll_alike R D _ _ now p).0;
    })
