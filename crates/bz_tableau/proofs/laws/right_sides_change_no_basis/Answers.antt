use Rattle.bz_algebra.proofs.RightSides.{basis_of_other, objective_of_other}
use Rattle.bz_tableau.proofs.laws.right_sides_change_no_basis.Goals as goal

pub returns-clause-basis : goal.returns-clause-basis
returns-clause-basis c = basis_of_other

pub returns-clause-objective : goal.returns-clause-objective
returns-clause-objective c = objective_of_other
