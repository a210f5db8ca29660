use Rattle.bz_tableau.proofs.RowsOfBasis.{rows_of_basis}
use Rattle.bz_tableau.proofs.laws.tableau_has_rows_of_basis.Goals as goal

pub returns : goal.returns
returns c = rows_of_basis
