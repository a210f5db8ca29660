use Rattle.bz_std.proofs.OneLowest.{has_lowest, one_lowest}
use Rattle.bz_std.proofs.laws.one_lowest_form.Goals as goal

pub returns : goal.returns
returns c = record { some = has_lowest; one = one_lowest }
