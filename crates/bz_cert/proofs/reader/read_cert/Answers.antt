use Rattle.std.proofs.Common.{◌≡◌, ◌++◌, ◌∙◌, ℕ, List, ap, sym}
use Rattle.bz_cert.specs.declared.records.Certificate.{Certificate}
use Rattle.bz_cert.specs.declared.records.Verdict.{Verdict}
use Rattle.bz_cert.specs.CertText.{IsCertText, cert_lines, head_bytes, laid_out}
use Rattle.bz_cert.specs.CertPhases.{ReadsBody}
use Rattle.bz_cert.proofs.Refusals.{answers_also}
use Rattle.bz_cert.proofs.Standings.{fails_behind_head}
use Rattle.bz_cert.proofs.reader.read_cert.Goals as goal

-- a certificate behind the head of its verdict
behind_head : (text rest : List ℕ) (verdict : Verdict) (c : Certificate) → text ≡ head_bytes verdict ++ rest → ReadsBody verdict rest c → IsCertText text c
behind_head text rest verdict c joined h = record {
  shaped = h.shaped;
  writable = h.writable;
  text_is = joined ∙ ap (λ r. head_bytes verdict ++ r) h.joined ∙ ap (λ v. head_bytes v ++ laid_out (cert_lines c)) (sym h.verdict_is);
}

pub returns : goal.returns
returns c = answers_also _ _ _ _ _ c.read_body.ensures
    (λ cert h. behind_head _ _ _ cert c.in_ok-verdict.ensures.0 h)
    (λ number kind h. fails_behind_head _ _ _ _ number kind c.in_ok-verdict.ensures.0 c.in_ok-verdict.ensures.1 h)
