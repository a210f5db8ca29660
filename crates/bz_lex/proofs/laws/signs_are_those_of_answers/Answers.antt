use Rattle.bz_lex.proofs.AnswersOfSigns.{answer_of_signs, signs_with_basis}
use Rattle.bz_lex.proofs.laws.signs_are_those_of_answers.Goals as goal

pub returns-clause-answer : goal.returns-clause-answer
returns-clause-answer c = answer_of_signs

pub returns-clause-signs : goal.returns-clause-signs
returns-clause-signs c = signs_with_basis
