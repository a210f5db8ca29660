use Rattle.std.proofs.Common.{rules}
use Rattle.bz_cert.proofs.Failing.{field_is_word, first_line_is, no_word}
use Rattle.bz_cert.proofs.Refusals.{faulted}
use Rattle.bz_cert.proofs.places.next_word.Goals as goal

pub returns-in-None : goal.returns-in-None
returns-in-None c = faulted _ _ _ _ c.fault-in-None.ensures (λ verdict before awaits.
    no_word verdict before c.args.words.now c.args.at.lines c.args.at.rest.now _ _ awaits
    (first_line_is _ _ _ (search rules) c.cut_at.ensures.joined c.cut_at.ensures.before c.cut_at.ensures.from_there)
    (λ word has among. c.in-None.ensures.none word
    (field_is_word _ _ _ word c.cut_at-2.ensures.joined c.cut_at-2.ensures.before c.cut_at-2.ensures.from_there has) among))
