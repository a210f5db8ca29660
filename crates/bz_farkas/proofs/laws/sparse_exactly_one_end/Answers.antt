use Rattle.bz_farkas.proofs.SparseFarkas.{fall_or_balance, not_both, primitive_fall}
use Rattle.bz_farkas.proofs.laws.sparse_exactly_one_end.Goals as goal

pub returns : goal.returns
returns c = record { either = fall_or_balance; not_both = not_both; primitive = primitive_fall }
