use Rattle.bz_report.proofs.Lowest.{lowest_terms_are_one}
use Rattle.bz_report.proofs.laws.lowest_terms_are_one.Goals as goal

pub returns : goal.returns
returns c = lowest_terms_are_one
