use Rattle.bz_tableau.proofs.TrueAnswers.{least_is_least, least_s, empty_has_none, ray_falls_below}
use Rattle.bz_tableau.proofs.laws.answers_are_true.Goals as goal

pub returns-clause-least : goal.returns-clause-least
returns-clause-least c = least_is_least

pub returns-clause-least_s : goal.returns-clause-least_s
returns-clause-least_s c = least_s

pub returns-clause-empty : goal.returns-clause-empty
returns-clause-empty c = empty_has_none

pub returns-clause-ray : goal.returns-clause-ray
returns-clause-ray c = ray_falls_below
