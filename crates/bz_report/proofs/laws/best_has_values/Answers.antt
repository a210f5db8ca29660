use Rattle.bz_report.proofs.BestValues.{best_has_values}
use Rattle.bz_report.proofs.laws.best_has_values.Goals as goal

pub returns : goal.returns
returns c = best_has_values
