-- The objective row of the least s shows that there is no point.
use Rattle.std.proofs.Common.{refl}
use Rattle.bz_lex.proofs.RelaxedTables.{relaxed_empty}
use Rattle.bz_lex.proofs.solving.empty_answer.Goals as goal

pub returns-clause-answers : goal.returns-clause-answers
returns-clause-answers c = rw (c.from_vec.ensures, c.from_vec-2.ensures, c.in_ok-basis.ensures.items, c.basis.ensures) (refl, relaxed_empty c.args.lp.now c.args.relaxed.now c.requires.tableau c.in_ok-y.y.items c.requires.least c.requires.low c.in_ok-y.ensures)
