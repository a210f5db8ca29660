use Rattle.std.proofs.Common.{rules, length, FitsSigned, to_z-of_z}
use Rattle.std.specs.Int.{w128}
use Rattle.std.specs.Int.RustNames.{unsigned_abs}
use Rattle.bz_num.specs.Dense.{IsDivisorOf, entry}
use Rattle.bz_std.specs.LowestForms.{IsLowestOf}
use Rattle.bz_std.proofs.CutNumbers.{some_divisor}
use Rattle.bz_floor.proofs.Primitives.{primitive_is}
use Rattle.bz_floor.proofs.directions.primitive.Goals as goal

pub lowest-requires-clause-positive : goal.lowest-requires-clause-positive
lowest-requires-clause-positive c =
    let g = c.common_divisor-divisor.result in
    let fits : FitsSigned w128 g = search rules in
    let divisor : IsDivisorOf (unsigned_abs g) c.args.numbers.items = rw c.as_slice.ensures.value at c.common_divisor-divisor.ensures.divisor in
    rw (to_z-of_z fits) (some_divisor g c.args.numbers.items c.common_divisor-divisor.ensures.sign divisor c.requires.some)

pub returns-clause-primitive : goal.returns-clause-primitive
returns-clause-primitive c =
    let g = c.common_divisor-divisor.result in
    let fits : FitsSigned w128 g = search rules in
    let divisor : IsDivisorOf (unsigned_abs g) c.args.numbers.items = rw c.as_slice.ensures.value at c.common_divisor-divisor.ensures.divisor in
    let lowest : IsLowestOf (length c.args.numbers.items) g (entry c.args.numbers.items) c.lowest.result.0 c.lowest.result.1 = rw (to_z-of_z fits) at c.lowest.ensures.lowest in
    primitive_is g c.lowest.result.0 c.args.numbers.items c.lowest.result.1 divisor lowest
