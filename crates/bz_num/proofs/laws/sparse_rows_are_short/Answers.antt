use Rattle.bz_num.proofs.Lengths.{short}
use Rattle.bz_num.proofs.laws.sparse_rows_are_short.Goals as goal

pub returns : goal.returns
returns c = short
