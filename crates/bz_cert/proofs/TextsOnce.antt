-- A text is one certificate's at most, and a certificate's text has no fault.
use Rattle.std.proofs.Common.{◌≡◌, ◌≢◌, ◌∷◌, ◌++◌, ◌∙◌, [], ℕ, List, ap, sym, refl, append_assoc, codes, bytes_eq, cond}
use Rattle.std.specs.List.{AllByRecursion}
use Rattle.std.proofs.lemmas.List.{append_cancel_left}
use Rattle.bz_cert.specs.declared.records.Certificate.{Certificate}
use Rattle.bz_cert.specs.declared.records.Verdict.{Verdict}
use Rattle.bz_cert.specs.declared.records.Verdict.TheVariants.{Optimal, Infeasible, Unbounded}
use Rattle.bz_cert.specs.CertText.{CertLine, IsCertText, cert_lines, first_line, head_bytes, laid_out, verdict_line}
use Rattle.bz_cert.specs.CertPhases.{start}
use Rattle.bz_cert.specs.CertReading.{PassFrom, advance}
use Rattle.bz_cert.specs.CertFaults.{Standing}
use Rattle.bz_cert.proofs.CertLines.{same_cert}
use Rattle.bz_cert.proofs.ListLemmas.{same_tail, same_until}
use Rattle.bz_cert.proofs.NumberTexts.{clear_of}
use Rattle.bz_cert.proofs.TextLines.{IsNarrowLine, same_laid_out}
use Rattle.bz_cert.proofs.TextsPass.{cert_passes}

-- lines that pass have no wide number
pub narrow_lines : (verdict : Verdict) (before : Standing) (ls : List CertLine) → PassFrom verdict before ls → AllByRecursion IsNarrowLine ls
narrow_lines verdict before [] h = tt
narrow_lines verdict before (l ∷ ls) h = (h.0.narrow, narrow_lines verdict (advance before l) ls h.1)

-- the verdict of its line
pub verdict_from : List ℕ → Verdict
verdict_from bytes = cond (bytes_eq bytes (codes "verdict optimal")) Optimal (cond (bytes_eq bytes (codes "verdict infeasible")) Infeasible Unbounded)

pub from_line : (v : Verdict) → verdict_from (verdict_line v) ≡ v
unfolding verdict_from
from_line Optimal = refl
from_line Infeasible = refl
from_line Unbounded = refl

pub no_feed_in_verdict : (v : Verdict) → AllByRecursion (λ b. b ≢ 10) (verdict_line v)
no_feed_in_verdict Optimal = clear_of 10 (verdict_line Optimal) refl
no_feed_in_verdict Infeasible = clear_of 10 (verdict_line Infeasible) refl
no_feed_in_verdict Unbounded = clear_of 10 (verdict_line Unbounded) refl

-- the first two lines tell the verdict
pub same_head_bytes : (v w : Verdict) (r s : List ℕ) → head_bytes v ++ r ≡ head_bytes w ++ s → (v ≡ w) × (r ≡ s)
same_head_bytes v w r s e =
    let behind : verdict_line v ++ (10 ∷ r) ≡ verdict_line w ++ (10 ∷ s) =
    sym (append_assoc (verdict_line v) (10 ∷ []) r)
    ∙ append_cancel_left (first_line ++ 10 ∷ []) ((verdict_line v ++ 10 ∷ []) ++ r) ((verdict_line w ++ 10 ∷ []) ++ s) e
    ∙ append_assoc (verdict_line w) (10 ∷ []) s in
    let parts : (verdict_line v ≡ verdict_line w) × (10 ∷ r ≡ 10 ∷ s) =
    same_until (λ b. b ≢ 10) (verdict_line v) (verdict_line w) (10 ∷ r) (10 ∷ s) (no_feed_in_verdict v) (no_feed_in_verdict w)
    (λ other. other refl) (λ other. other refl) behind in
    (sym (from_line v) ∙ ap verdict_from parts.0 ∙ from_line w, same_tail 10 10 r s parts.1)

-- a text is the text of at most one certificate
pub one_certificate : (text : List ℕ) (c d : Certificate) → IsCertText text c → IsCertText text d → c ≡ d
one_certificate text c d h k =
    let parts : (c.verdict ≡ d.verdict) × (laid_out (cert_lines c) ≡ laid_out (cert_lines d)) =
    same_head_bytes c.verdict d.verdict _ _ (sym h.text_is ∙ k.text_is) in
    same_cert c d h.shaped k.shaped parts.0
    (same_laid_out (cert_lines c) (cert_lines d)
    (narrow_lines c.verdict start (cert_lines c) (cert_passes c h.shaped h.writable))
    (narrow_lines d.verdict start (cert_lines d) (cert_passes d k.shaped k.writable)) parts.1)

-- a certificate has at most one text
pub one_text : (text other : List ℕ) (c : Certificate) → IsCertText text c → IsCertText other c → text ≡ other
one_text text other c h k = h.text_is ∙ sym k.text_is
