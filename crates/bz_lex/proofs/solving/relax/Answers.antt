-- The tableau of least s has the signs of an answer.
use Rattle.std.proofs.Common.{true}
use Rattle.bz_lex.proofs.ShownAnswers.{least_signs_are}
use Rattle.bz_lex.proofs.solving.relax.Goals as goal

pub unreachable-requires : goal.unreachable-requires
unreachable-requires c =
    let lacks = rw c.in-None.is at c.in_ok-answer.ensures.signs in
    lacks (least_signs_are true c.args.lp.now c.in_ok-tableau.tableau c.in_ok-tableau.ensures.tableau c.in_ok-tableau.ensures.point c.in_ok-tableau.ensures.least)
