-- `screening::screen` meets its contract.
use Rattle.octets.proofs.Outcomes.{left, left_first, then_next}
use Rattle.network.specs.Conditions.{screening_of}
use Rattle.reading.proofs.Stages.{refused_as}
use Rattle.screening.proofs.screen.Goals as goal

pub returns-in_err-certificate : goal.returns-in_err-certificate
unfolding screening_of
returns-in_err-certificate c = refused_as _ _ _ c.from_residual.ensures.0 (left_first _ _ c.from_residual.ensures.1 _ _ c.in_err-certificate.ensures.told_is)

pub returns-in_err-check_pulls : goal.returns-in_err-check_pulls
unfolding screening_of
returns-in_err-check_pulls c =
    refused_as _ _ _ c.from_residual-in_err-check_pulls.ensures.0
    (then_next _ _ _ c.in_ok-certificate.ensures.told_is
    (left_first _ _ c.from_residual-in_err-check_pulls.ensures.1 _ _ (rw c.in_ok-certificate.ensures.bytes_are at c.in_err-check_pulls.ensures)))

pub returns-in_err-check_rooms : goal.returns-in_err-check_rooms
unfolding screening_of
returns-in_err-check_rooms c =
    refused_as _ _ _ c.from_residual-in_err-check_rooms.ensures.0
    (then_next _ _ _ c.in_ok-certificate.ensures.told_is
    (then_next _ _ _ (rw c.in_ok-certificate.ensures.bytes_are at c.in_ok-check_pulls.ensures)
    (left _ _ c.from_residual-in_err-check_rooms.ensures.1 _ (rw c.in_ok-certificate.ensures.bytes_are at c.in_err-check_rooms.ensures))))

pub returns : goal.returns
unfolding screening_of
returns c =
    let bytes = c.in_ok-certificate.ensures.bytes_are in
    record {
      told_is = then_next _ _ _ c.in_ok-certificate.ensures.told_is (then_next _ _ _ (rw bytes at c.in_ok-check_pulls.ensures) (rw bytes at c.in_ok-check_rooms.ensures));
      bytes_are = bytes;
    }
