use Rattle.std.proofs.Common.{refl}
use Rattle.bz_cert.specs.CertFaults.{IsCertFault}
use Rattle.bz_cert.proofs.Heads.{nothing_left, second_joined, second_open}
use Rattle.bz_cert.proofs.Refusals.{faulted}
use Rattle.bz_cert.proofs.head.read_head.Goals as goal

pub returns-in_default : goal.returns-in_default
returns-in_default c = faulted _ _ _ _ c.fault.ensures
    (IsCertFault.verdict _ _ _ c.in_ok-rest.ensures.0
    (record { some = c.in_ok-rest.ensures.1; joined = c.cut_at.ensures.joined; clear = c.cut_at.ensures.before; apart = c.cut_at.ensures.from_there })
    c.in_default.ensures.none refl refl)

pub returns-in_default-text_behind : goal.returns-in_default-text_behind
returns-in_default-text_behind c = faulted _ _ _ _ c.fault-in_default-text_behind.ensures
    (second_open _ _ _ _ _ c.in_ok-rest.ensures.0 c.cut_at.ensures.joined c.in-Some.ensures.found
    (nothing_left _ c.cut_at.ensures.from_there c.in_default-text_behind.ensures.none))

pub returns : goal.returns
returns c = (second_joined _ _ _ _ _ _ c.in_ok-rest.ensures.0 c.cut_at.ensures.joined c.in-Some.ensures.found c.in-Some-text_behind.ensures.found, refl)
