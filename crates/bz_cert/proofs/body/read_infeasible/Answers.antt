use Rattle.std.proofs.Common.{◌≡◌, ◌∙◌, []}
use Rattle.bz_cert.specs.declared.records.Verdict.{Verdict}
use Rattle.bz_cert.specs.CertPhases.{start}
use Rattle.bz_cert.proofs.Refusals.{handed_on}
use Rattle.bz_cert.proofs.Bodies.{infeasible_body, infeasible_bound}
use Rattle.bz_cert.proofs.body.read_infeasible.Goals as goal

pub returns-in_err-cuts : goal.returns-in_err-cuts
returns-in_err-cuts c = handed_on _ _ _ _ _ c.from_residual.ensures.1 c.in_err-cuts.ensures (λ number kind h. h Verdict.Infeasible start infeasible_bound)

pub returns : goal.returns
returns c =
    let ray : c.from_vec.result ≡ [] = c.from_vec.ensures ∙ c.new.ensures.items in
    rw (ray, c.from_vec-2.ensures, c.from_vec-3.ensures) (infeasible_body _ _ _ _ c.in_ok-cuts.ensures)
