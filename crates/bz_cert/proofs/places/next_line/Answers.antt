use Rattle.bz_cert.proofs.Failing.{failing_is, no_numbers}
use Rattle.bz_cert.proofs.Refusals.{handed_on}
use Rattle.bz_cert.proofs.places.next_line.Goals as goal

pub returns-in_err-numbers : goal.returns-in_err-numbers
returns-in_err-numbers c = handed_on _ _ _ _ _ c.from_residual-in_err-numbers.ensures.1 c.in_err-numbers.ensures
    (λ number kind h verdict before awaits fine. failing_is _ _ _ _ _ _ _ _ h.0 h.1
    (no_numbers verdict before c.args.words.now c.args.at.lines c.args.at.rest.now _ _ _ awaits c.in_ok-word.ensures.1 c.in_ok-word.ensures.0
    (fine _ c.in_ok-word.ensures.1) h.2))

pub returns-in_err-word : goal.returns-in_err-word
returns-in_err-word c = handed_on _ _ _ _ _ c.from_residual.ensures.1 c.in_err-word.ensures (λ number kind h verdict before awaits fine. h verdict before awaits)
