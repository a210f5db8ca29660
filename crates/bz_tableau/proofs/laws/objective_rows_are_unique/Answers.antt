use Rattle.bz_tableau.proofs.OneObjective.{one_objective}
use Rattle.bz_tableau.proofs.laws.objective_rows_are_unique.Goals as goal

pub returns : goal.returns
returns c = one_objective
