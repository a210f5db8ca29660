use Rattle.bz_farkas.proofs.Farkas.{fall_or_balance, not_both}
use Rattle.bz_farkas.proofs.PrimitiveFalls.{primitive_fall}
use Rattle.bz_farkas.proofs.laws.exactly_one_end.Goals as goal

pub returns : goal.returns
returns c = record { either = fall_or_balance; not_both = not_both; primitive = primitive_fall }
