-- The laws of queries: which of 18, 16 and 19 is answered when, and what a query shows. Assumes nothing.
use Prim.Native.Nat.{ℕ}
use mathlib.Core.List.{List}
use mathlib.Core.Path.{◌≡◌, refl, ap, ◌∙◌}
use mathlib.Core.Logic.{◌⊎◌, inl, inr, ⊎_elim}
use native.Mathlib.Omega.{arith}
use Rattle.certificate.specs.Checks.{refusal, fine}
use Rattle.certificate.proofs.Tests.{need_pass, need_fail}
use Rattle.judging.specs.Lookup.{is_listed}
use Rattle.judging.proofs.Deciding.{Tells, tells_split, tells_false}
use Rattle.judging.proofs.Entries.{listed_tells}
use Rattle.runs.proofs.Lookup.{finds_entry}
use Rattle.controller.specs.declared.Controller.{Controller}
use Rattle.controller.specs.declared.Shown.{Shown}
use Rattle.controller.specs.State.{in_mode, stored}
use Rattle.judging.specs.Asking.{cell_asked, cell_fault, lookup_fault, Proper}
use Rattle.controller.specs.Query.{query_fault, entry_asked, showing, refused, query_of}
use Rattle.controller.specs.Laws.{HoldsCertificate, ListsAsked, ShowsExisting, QueryEmpty, QueryImproper, QueryUnlisted, QuerySucceeds, QueryShows, QueryExists, QueryRefused, QueryNumbers}
use Rattle.controller.proofs.Holding.{holds_is_plain}
use Rattle.judging.proofs.Asking.{proper_tells}

module _ (c : Controller) (queues : List ℕ) (scale : ℕ) where
  listed_tells_here : Tells (is_listed (stored c) (cell_asked (stored c) queues scale) c.mode) ((e : ℕ) × ListsAsked c queues scale e)
  listed_tells_here = listed_tells (stored c) (cell_asked (stored c) queues scale) c.mode

  -- the four ways that a query goes
  pub shown : (e : ℕ) → HoldsCertificate c → Proper (stored c) queues scale → ListsAsked c queues scale e → query_of c queues scale ≡ showing c e
  unfolding query_of query_fault lookup_fault cell_fault
  shown e h p i =
      let found : query_fault c queues scale ≡ fine =
      need_pass _ _ _ ((holds_is_plain c).1 h) ∙ need_pass _ _ _ ((proper_tells (stored c) queues scale).1 p) ∙ need_pass _ _ _ (listed_tells_here.1 (e, i)) in
      let entry : entry_asked c queues scale ≡ e = finds_entry (stored c) h.screened.readable _ _ e i.exists i.cell i.mode in
      rw (found, entry)

  pub unlisted : HoldsCertificate c → Proper (stored c) queues scale → ((e : ℕ) → ListsAsked c queues scale e → ⊥) → query_of c queues scale ≡ refused c (refusal 19 0)
  unfolding query_of query_fault lookup_fault cell_fault
  unlisted h p bad =
      let fault : query_fault c queues scale ≡ refusal 19 0 =
      need_pass _ _ _ ((holds_is_plain c).1 h) ∙ need_pass _ _ _ ((proper_tells (stored c) queues scale).1 p) ∙ need_fail _ _ _ (tells_false _ listed_tells_here (λ f. bad f.0 f.1)) in
      rw fault

  pub improper : HoldsCertificate c → (Proper (stored c) queues scale → ⊥) → query_of c queues scale ≡ refused c (refusal 16 0)
  unfolding query_of query_fault lookup_fault
  improper h bad =
      let fault : query_fault c queues scale ≡ refusal 16 0 =
      need_pass _ _ _ ((holds_is_plain c).1 h) ∙ need_fail _ _ _ (tells_false _ (proper_tells (stored c) queues scale) bad) in
      rw fault

  pub none_held : (HoldsCertificate c → ⊥) → query_of c queues scale ≡ refused c (refusal 18 0)
  unfolding query_of query_fault
  none_held bad =
      let fault : query_fault c queues scale ≡ refusal 18 0 = need_fail _ _ _ (tells_false _ (holds_is_plain c) bad) in
      rw fault

  -- what holds of each of the four holds of a query
  pub by_way : (P : Shown → Type 0)
      → ((e : ℕ) → HoldsCertificate c → Proper (stored c) queues scale → ListsAsked c queues scale e → P (showing c e))
      → (HoldsCertificate c → Proper (stored c) queues scale → ((e : ℕ) → ListsAsked c queues scale e → ⊥) → P (refused c (refusal 19 0)))
      → (HoldsCertificate c → (Proper (stored c) queues scale → ⊥) → P (refused c (refusal 16 0)))
      → ((HoldsCertificate c → ⊥) → P (refused c (refusal 18 0)))
      → P (query_of c queues scale)
  by_way P show list proper hold = ⊎_elim held (λ bad. rw (none_held bad) (hold bad)) (tells_split _ (holds_is_plain c))
    where
      asked : HoldsCertificate c → Proper (stored c) queues scale → P (query_of c queues scale)
      asked h p =
          ⊎_elim
          (λ f. rw (shown f.0 h p f.1) (show f.0 h p f.1))
          (λ bad. rw (unlisted h p (λ e i. bad (e, i))) (list h p (λ e i. bad (e, i))))
          (tells_split _ listed_tells_here)

      held : HoldsCertificate c → P (query_of c queues scale)
      held h = ⊎_elim (asked h) (λ bad. rw (improper h bad) (proper h bad)) (tells_split _ (proper_tells (stored c) queues scale))

  abbrev Succeeds : Type 0
  Succeeds = HoldsCertificate c × Proper (stored c) queues scale × ((e : ℕ) × ListsAsked c queues scale e)

  abbrev Unlisted : Type 0
  Unlisted = HoldsCertificate c × Proper (stored c) queues scale × ((e : ℕ) → ListsAsked c queues scale e → ⊥)

number_of : {r q : Shown} → r ≡ q → r.report.number ≡ q.report.number
number_of e = ap (λ (r : Shown). r.report.number) e

pub query_empty : QueryEmpty
query_empty c q d = (
  by_way c q d (λ r. r.report.number ≡ 18 → HoldsCertificate c → ⊥) (λ _ _ _ _ e. absurd (omega arith)) (λ _ _ _ e. absurd (omega arith)) (λ _ _ e. absurd (omega arith)) (λ bad _. bad),
  (λ bad. number_of (none_held c q d bad)),
)

pub query_improper : QueryImproper
query_improper c q d = (
  by_way c q d (λ r. r.report.number ≡ 16 → HoldsCertificate c × (Proper (stored c) q d → ⊥))
      (λ _ _ _ _ e. absurd (omega arith)) (λ _ _ _ e. absurd (omega arith)) (λ h bad _. (h, bad)) (λ _ e. absurd (omega arith)),
  (λ h. number_of (improper c q d h.0 h.1)),
)

pub query_unlisted : QueryUnlisted
query_unlisted c q d = (
  by_way c q d (λ r. r.report.number ≡ 19 → Unlisted c q d)
      (λ _ _ _ _ e. absurd (omega arith)) (λ h p bad _. (h, p, bad)) (λ _ _ e. absurd (omega arith)) (λ _ e. absurd (omega arith)),
  (λ h. number_of (unlisted c q d h.0 h.1 h.2)),
)

pub query_succeeds : QuerySucceeds
query_succeeds c q d = (
  by_way c q d (λ r. r.report.number ≡ 0 → Succeeds c q d)
      (λ e h p i _. (h, p, (e, i))) (λ _ _ _ e. absurd (omega arith)) (λ _ _ e. absurd (omega arith)) (λ _ e. absurd (omega arith)),
  (λ h. number_of (shown c q d h.2.0 h.0 h.1 h.2.1)),
)

pub query_shows : QueryShows
query_shows c q d e h p i = shown c q d e h p i

pub query_exists : QueryExists
query_exists c q d =
    by_way c q d (λ r. r.report.number ≡ 0 → ShowsExisting (stored c) r)
    (λ e h _ i _. let entry = h.screened.readable.entry e i.exists in record { signal = entry.signal; green = refl; mode = entry.next_mode })
    (λ _ _ _ z. absurd (omega arith)) (λ _ _ z. absurd (omega arith)) (λ _ z. absurd (omega arith))

-- a query keeps all but the mode
pub query_keeps : (c : Controller) (queues : List ℕ) (scale : ℕ) → (query_of c queues scale).state ≡ in_mode c (query_of c queues scale).state.mode
query_keeps c q d = by_way c q d (λ r. r.state ≡ in_mode c r.state.mode) (λ _ _ _ _. refl) (λ _ _ _. refl) (λ _ _. refl) (λ _. refl)

pub query_refused : QueryRefused
query_refused c q d =
    by_way c q d (λ r. (r.report.number ≡ 0 → ⊥) → r ≡ refused c (refusal r.report.number 0))
    (λ _ _ _ _ bad. absurd (bad refl)) (λ _ _ _ _. refl) (λ _ _ _. refl) (λ _ _. refl)

pub query_numbers : QueryNumbers
query_numbers c q d =
    by_way c q d (λ r. (r.report.number ≡ 0) ⊎ ((r.report.number ≡ 16) ⊎ ((r.report.number ≡ 18) ⊎ (r.report.number ≡ 19))))
    (λ _ _ _ _. inl refl) (λ _ _ _. inr (inr (inr refl))) (λ _ _. inr (inl refl)) (λ _. inr (inr (inl refl)))
