use Rattle.bz_report.proofs.Coordinates.{values_are_coordinates}
use Rattle.bz_report.proofs.laws.values_are_coordinates.Goals as goal

pub returns : goal.returns
returns c = values_are_coordinates
