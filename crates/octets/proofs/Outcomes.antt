-- Outcomes of tests: what a test that is left by `?` tells, what follows one that passes, and loops of tests. Assumes nothing.
use Rattle.std.proofs.Common.{ℕ, ◌≡◌, ◌+◌, ◌≤◌, ◌<◌, refl, sym, ap, ◌∙◌, Bool, true, false, arith}
use Rattle.std.specs.Prelude.{Result, IfOk}
use Rattle.std.specs.Result.{IsErrAnd}
use Rattle.std.proofs.lemmas.Result.{err_from_is_err_and}
use Rattle.certificate.specs.declared.Report.{Report}
use Rattle.certificate.specs.Checks.{refusal, fine, need, or_else, first_from}
use Rattle.certificate.proofs.Tests.{or_next, or_stop, first_turn, first_end}
use Rattle.octets.specs.declared.refusals.Refusal.{Refusal}
use Rattle.octets.specs.declared.refusals.Refusal.TheVariants.{Short, Mark, Header, Link, Turn, Signal, Grid, Arrivals, Names, PullSum, Room, Unsafe, Rank, Unlisted, NotLower, Improper, NoRoom, NoCertificate, NoEntry, BadReading, NoReading, Order, Memory, Goal}
use Rattle.octets.specs.declared.refusals.Refused.{Refused}
use Rattle.octets.specs.Refusals.{number_of, report_of, told, told_after}

-- no refusal has the number of success
pub refuses : (why : Refusal) → number_of why ≡ 0 → ⊥
refuses Short e = omega arith
refuses Mark e = omega arith
refuses Header e = omega arith
refuses Link e = omega arith
refuses Turn e = omega arith
refuses Signal e = omega arith
refuses Grid e = omega arith
refuses Arrivals e = omega arith
refuses Names e = omega arith
refuses PullSum e = omega arith
refuses Room e = omega arith
refuses Unsafe e = omega arith
refuses Rank e = omega arith
refuses Unlisted e = omega arith
refuses NotLower e = omega arith
refuses Improper e = omega arith
refuses NoRoom e = omega arith
refuses NoCertificate e = omega arith
refuses NoEntry e = omega arith
refuses BadReading e = omega arith
refuses NoReading e = omega arith
refuses Order e = omega arith
refuses Memory e = omega arith
refuses Goal e = omega arith

-- a report that a refusal is, is none of success
pub refuses_as : (e : Refused) (f : Report) → report_of e ≡ f → f.number ≡ 0 → ⊥
refuses_as e f p z = refuses e.why (ap (λ (r : Report). r.number) p ∙ z)

-- a refusal stands whatever follows; what follows success stands
pub stands : (e : Refused) (f g : Report) → report_of e ≡ f → report_of e ≡ or_else f g
stands e f g p = p ∙ sym (or_stop f g (refuses_as e f p))

pub then_next : (f g r : Report) → fine ≡ f → r ≡ g → r ≡ or_else f g
then_next f g r p q = q ∙ sym (or_next f g (sym (ap (λ (r : Report). r.number) p)))

-- a call that refuses is left by `?`: its refusal is told
pub left : {T : Type 0} (r : Result T Refused) (e : Refused) → IsErrAnd r (λ x. x ≡ e) → (f : Report) → report_of e ≡ f → told r ≡ f
left r e h f p = let q = err_from_is_err_and r h in rw (q.1, q.2) p

-- the same of an outcome that counts; and nothing is said of success
pub left_after : {T : Type 0} (count : T → ℕ) (r : Result T Refused) (e : Refused) → IsErrAnd r (λ x. x ≡ e) → (f : Report) → report_of e ≡ f → told_after count r ≡ f
left_after count r e h f p = let q = err_from_is_err_and r h in rw (q.1, q.2) p

pub not_ok : {T : Type 0} (r : Result T Refused) (e : Refused) (P : T → Type 0) → IsErrAnd r (λ x. x ≡ e) → IfOk r P
not_ok r e P h = let q = err_from_is_err_and r h in rw q.1 tt

-- the same, where other tests follow
pub left_first : {T : Type 0} (r : Result T Refused) (e : Refused) → IsErrAnd r (λ x. x ≡ e) → (f g : Report) → report_of e ≡ f → told r ≡ or_else f g
left_first r e h f g p = left r e h _ (stands e f g p)

-- tests one after another, as `need` has them
need_stands : (b : Bool) (n o : ℕ) (next : Report) (e : Refused) → report_of e ≡ need b (refusal n o) fine → report_of e ≡ need b (refusal n o) next
unfolding need
need_stands true n o next e p = absurd (refuses_as e _ p refl)
need_stands false n o next e p = p

pub need_left : {T : Type 0} (r : Result T Refused) (e : Refused) → IsErrAnd r (λ x. x ≡ e) → (b : Bool) (n o : ℕ) (next : Report) → report_of e ≡ need b (refusal n o) fine → told r ≡ need b (refusal n o) next
need_left r e h b n o next p = left r e h _ (need_stands b n o next e p)

pub need_next : (b : Bool) (n o : ℕ) (next r : Report) → fine ≡ need b (refusal (n + 1) o) fine → r ≡ next → r ≡ need b (refusal (n + 1) o) next
unfolding need
need_next true n o next r p q = q
need_next false n o next r p q = absurd (omega (arith, ap (λ (f : Report). f.number) p))

-- a test that passes holds, and one that refuses does not
pub need_holds : (b : Bool) (n o : ℕ) → fine ≡ need b (refusal (n + 1) o) fine → b ≡ true
unfolding need
need_holds true n o p = refl
need_holds false n o p = absurd (omega (arith, ap (λ (f : Report). f.number) p))

pub need_fails : (b : Bool) (n o : ℕ) (e : Refused) → report_of e ≡ need b (refusal n o) fine → b ≡ false
unfolding need
need_fails true n o e p = absurd (refuses_as e _ p refl)
need_fails false n o e p = refl

-- a loop of tests: left by `?`, the next turn, the end
pub stop : {T : Type 0} (r : Result T Refused) (e : Refused) → IsErrAnd r (λ x. x ≡ e) → (n i : ℕ) (f : ℕ → Report) (t : Report) → i < n → report_of e ≡ f i → first_from n f i ≡ t → told r ≡ t
stop r e h n i f t lt p q = left_first r e h (f i) _ p ∙ sym (first_turn n i f lt) ∙ q

pub go_on : (n i : ℕ) (f : ℕ → Report) (t : Report) → i < n → fine ≡ f i → first_from n f i ≡ t → first_from n f (i + 1) ≡ t
go_on n i f t lt p q = sym (or_next (f i) _ (sym (ap (λ (r : Report). r.number) p))) ∙ sym (first_turn n i f lt) ∙ q

pub end : (n i : ℕ) (f : ℕ → Report) (t : Report) → n ≤ i → first_from n f i ≡ t → fine ≡ t
end n i f t h q = sym (first_end n i f h) ∙ q
