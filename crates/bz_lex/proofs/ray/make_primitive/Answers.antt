use Rattle.std.proofs.Common.{rules, FitsSigned, to_z-of_z, pos, ◌<ℤ◌, ◌≤ℤ◌}
use Rattle.std.specs.Int.{w128}
use Rattle.bz_lex.proofs.Moves.{part_divided, part_zero}
use Rattle.bz_lex.proofs.ray.make_primitive.Goals as goal

pub divide_all-requires-clause-divides : goal.divide_all-requires-clause-divides
divide_all-requires-clause-divides c =
    let fits : FitsSigned w128 c.common_divisor-divisor.result = search rules in
    rw (to_z-of_z fits) c.common_divisor-divisor.ensures.divisor.divides

pub returns-then-divisor-gt0-clause-part : goal.returns-then-divisor-gt0-clause-part
returns-then-divisor-gt0-clause-part c =
    let fits : FitsSigned w128 c.common_divisor-divisor.result = search rules in
    let divided = rw (to_z-of_z fits) at c.divide_all.ensures in
    let tested = rw (to_z-of_z fits) at c.if-divisor-gt0.true in
    let some : (pos 0) <ℤ c.common_divisor-divisor.result = search rules in
    part_divided c.common_divisor-divisor.result c.args.numbers.now c.divide_all.new.row some c.common_divisor-divisor.ensures.divisor divided

pub returns-else-divisor-gt0-clause-part : goal.returns-else-divisor-gt0-clause-part
returns-else-divisor-gt0-clause-part c =
    let fits : FitsSigned w128 c.common_divisor-divisor.result = search rules in
    let tested = rw (to_z-of_z fits) at c.if-divisor-gt0.false in
    let none : c.common_divisor-divisor.result ≤ℤ (pos 0) = search rules in
    part_zero c.common_divisor-divisor.result c.args.numbers.now c.common_divisor-divisor.ensures.sign none c.common_divisor-divisor.ensures.divisor
