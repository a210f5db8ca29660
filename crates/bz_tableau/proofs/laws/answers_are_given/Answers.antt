use Rattle.bz_tableau.proofs.GivenAnswers.{solved_given, answer_given}
use Rattle.bz_tableau.proofs.laws.answers_are_given.Goals as goal

pub returns-clause-solved : goal.returns-clause-solved
returns-clause-solved c = solved_given

pub returns-clause-of_basis : goal.returns-clause-of_basis
returns-clause-of_basis c = answer_given
