use Rattle.std.proofs.Common.{rules, refl, IsTrue}
use Rattle.bz_cert.specs.CertFaults.{IsCertFault}
use Rattle.bz_cert.proofs.Failing.{first_line_is}
use Rattle.bz_cert.proofs.Heads.{first_alone, first_joined, first_open, nothing_left}
use Rattle.bz_cert.proofs.Refusals.{faulted}
use Rattle.bz_cert.proofs.SparseLists.{empty_now, not_empty}
use Rattle.bz_cert.proofs.head.read_first.Goals as goal

pub returns-then-not-same_bytes : goal.returns-then-not-same_bytes
returns-then-not-same_bytes c = faulted _ _ _ _ c.fault-then-not-same_bytes.ensures
    (IsCertFault.head _ _ (first_line_is _ _ _ (search rules) c.cut_at.ensures.joined c.cut_at.ensures.before c.cut_at.ensures.from_there)
    (λ e. let t : IsTrue c.same_bytes.result = c.same_bytes.ensures.1 e in absurd (cc (t, c.if-not-same_bytes.true))) refl refl)

pub returns-in_default : goal.returns-in_default
returns-in_default c = faulted _ _ _ _ c.fault-in_default.ensures
    (first_open _ _ _ c.cut_at.ensures.joined (c.same_bytes.ensures.0 (search rules)) (nothing_left _ c.cut_at.ensures.from_there c.in_default.ensures.none))

pub returns-then-is_empty-2 : goal.returns-then-is_empty-2
returns-then-is_empty-2 c = faulted _ _ _ _ c.fault-then-is_empty-2.ensures
    (first_alone _ _ _ _ c.cut_at.ensures.joined (c.same_bytes.ensures.0 (search rules)) c.in-Some.ensures.found (empty_now _ (search rules)))

pub returns : goal.returns
returns c = (first_joined _ _ _ _ c.cut_at.ensures.joined (c.same_bytes.ensures.0 (search rules)) c.in-Some.ensures.found, not_empty _ (search rules))
