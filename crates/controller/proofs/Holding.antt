-- When a state holds a certificate: a fresh one does not, and one that an accepted load made does. Assumes nothing.
use Prim.Native.Nat.{ℕ, ◌≤◌}
use mathlib.Core.Path.{◌≡◌, refl}
use native.Mathlib.Omega.{arith}
use borrow.Author.Tests.{leb-true, le-leb, eqb-true, eq-eqb, ne_eqb}
use lib.Seq.{take-append_seam}
use Rattle.certificate.proofs.Tests.{and_both, both_and}
use Rattle.certificate.proofs.Size.{readable_fits}
use Rattle.network.proofs.Screening.{screening_is_plain}
use Rattle.judging.specs.Verdict.{verdict_of}
use Rattle.judging.proofs.Verdicts.{accepted_is_plain}
use Rattle.judging.proofs.Overflows.{accepted_overflows, refused_overflows}
use Rattle.controller.specs.declared.Controller.{Controller}
use Rattle.controller.specs.State.{holding, in_mode, stored, is_certificate, load_of}
use Rattle.controller.specs.Laws.{HoldsCertificate, HoldsIsPlain, FreshInModeZero, FreshHoldsNone, AcceptedHolds, LoadAccepted, LoadRefused}

pub holds_is_plain : HoldsIsPlain
unfolding is_certificate
holds_is_plain c = (
  (λ e. let h = and_both _ _ e in record { fits = leb-true _ _ h.0; screened = (screening_is_plain (stored c)).0 (eqb-true _ _ h.1) }),
  (λ h. both_and _ _ (le-leb _ _ h.fits) (eq-eqb _ _ ((screening_is_plain (stored c)).1 h.screened))),
)

-- a certificate is held in every mode
pub holds_in_mode : (c : Controller) (m : ℕ) → HoldsCertificate c → HoldsCertificate (in_mode c m)
holds_in_mode c m h = record { fits = h.fits; screened = h.screened }

pub fresh_in_mode_zero : FreshInModeZero
fresh_in_mode_zero = refl

-- no bytes are stored, so there is not even a header
pub fresh_holds_none : FreshHoldsNone
fresh_holds_none h = let none : 1 ≤ 0 = h.screened.readable.header.links_least in omega arith

pub accepted_holds : AcceptedHolds
accepted_holds s ok =
    let screened = ((accepted_is_plain s).0 ok).0 in
    let same : stored (holding s) ≡ s = take-append_seam s _ in
    (record { fits = readable_fits s screened.readable; screened = rw same screened }, same)

pub load_accepted : LoadAccepted
unfolding load_of
load_accepted c s ok = rw (accepted_overflows s ok, eq-eqb (verdict_of s).number 0 ok)

pub load_refused : LoadRefused
unfolding load_of
load_refused c s bad = rw (refused_overflows s bad, ne_eqb (verdict_of s).number 0 bad)
