use Rattle.bz_tableau.proofs.OneObjective.{one_row}
use Rattle.bz_tableau.proofs.laws.rows_are_unique.Goals as goal

pub returns : goal.returns
returns c = one_row
