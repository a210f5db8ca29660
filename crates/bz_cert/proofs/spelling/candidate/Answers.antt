use Rattle.std.proofs.Common.{rules}
use Rattle.bz_cert.proofs.NumberTexts.{parses, is_text, parsed_is}
use Rattle.bz_cert.proofs.spelling.candidate.Goals as goal

pub returns-in-Ok-parse : goal.returns-in-Ok-parse
returns-in-Ok-parse c = λ z s. let e = parses c.args.field.now c.in-Ok.text.now _ (search rules) c.parse.ensures.value.0 z s in parsed_is c.args.field.now _ c.in-Ok-parse.number z s e c.in-Ok-parse.is

pub returns-in-Err-parse : goal.returns-in-Err-parse
returns-in-Err-parse c = λ z s. let e = parses c.args.field.now c.in-Ok.text.now _ (search rules) c.parse.ensures.value.0 z s in absurd (cc)

pub returns-in-Err : goal.returns-in-Err
returns-in-Err c = λ z s. absurd (c.in-Err.ensures.cases.0 (is_text c.args.field.now z s))
