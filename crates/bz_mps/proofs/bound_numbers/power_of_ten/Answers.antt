use Rattle.std.proofs.Common.{◌^◌, ◌≤◌, arith}
use Rattle.std.proofs.lemmas.Int.{ints}
use Rattle.bz_mps.proofs.BoundNumbers.{power_fits}
use Rattle.bz_mps.proofs.bound_numbers.power_of_ten.Goals as goal

pub pow-requires : goal.pow-requires
pow-requires c = let fits : 10 ^ c.args.exponent ≤ 10 ^ 38 = power_fits c.args.exponent c.requires in omega arith

pub overflow_cast-result : goal.overflow_cast-result
overflow_cast-result c = let fits : 10 ^ c.args.exponent ≤ 10 ^ 38 = power_fits c.args.exponent c.requires in record { sfits = omega arith }

pub returns : goal.returns
returns c = let fits : 10 ^ c.args.exponent ≤ 10 ^ 38 = power_fits c.args.exponent c.requires in omega (arith, ints)
