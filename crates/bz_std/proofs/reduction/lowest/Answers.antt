use Rattle.std.proofs.Common.{rules, pos, ◌<ℤ◌, FitsSigned, to_z-of_z}
use Rattle.std.specs.Int.{w128, IsGcd}
use Rattle.std.specs.Int.RustNames.{unsigned_abs}
use Rattle.bz_algebra.proofs.Ring.{positive-ne}
use Rattle.bz_num.specs.Dense.{IsDivided, IsDivisorOf}
use Rattle.bz_std.proofs.LowestMade.{divides_all, divisor_of_some, lowest_is}
use Rattle.bz_std.proofs.reduction.lowest.Goals as goal

pub exact_quotient-requires-clause-nonzero : goal.exact_quotient-requires-clause-nonzero
exact_quotient-requires-clause-nonzero c =
    let fits : FitsSigned w128 c.gcd-divisor.result = search rules in
    let fits_common : FitsSigned w128 c.common_divisor.result = search rules in
    let divides : IsGcd (unsigned_abs c.args.den) (unsigned_abs c.common_divisor.result) (unsigned_abs c.gcd-divisor.result) = rw (to_z-of_z c.ranges.den, to_z-of_z fits_common) at c.gcd-divisor.ensures.divides in
    rw (to_z-of_z fits) (positive-ne c.gcd-divisor.result (divisor_of_some c.gcd-divisor.result c.args.den (positive-ne c.args.den c.requires.positive) c.gcd-divisor.ensures.sign divides.0))

pub exact_quotient-requires-clause-divides : goal.exact_quotient-requires-clause-divides
exact_quotient-requires-clause-divides c =
    let fits : FitsSigned w128 c.gcd-divisor.result = search rules in
    let fits_common : FitsSigned w128 c.common_divisor.result = search rules in
    let divides : IsGcd (unsigned_abs c.args.den) (unsigned_abs c.common_divisor.result) (unsigned_abs c.gcd-divisor.result) = rw (to_z-of_z c.ranges.den, to_z-of_z fits_common) at c.gcd-divisor.ensures.divides in
    rw (to_z-of_z fits, to_z-of_z c.ranges.den) divides.0

pub divided_by-requires-clause-divides : goal.divided_by-requires-clause-divides
divided_by-requires-clause-divides c =
    let fits : FitsSigned w128 c.gcd-divisor.result = search rules in
    let fits_common : FitsSigned w128 c.common_divisor.result = search rules in
    let divides : IsGcd (unsigned_abs c.args.den) (unsigned_abs c.common_divisor.result) (unsigned_abs c.gcd-divisor.result) = rw (to_z-of_z c.ranges.den, to_z-of_z fits_common) at c.gcd-divisor.ensures.divides in
    let of_row : IsDivisorOf (unsigned_abs c.common_divisor.result) c.args.numbers.items = rw c.as_slice.ensures.value at c.common_divisor.ensures.divisor in
    rw (to_z-of_z fits) (divides_all (unsigned_abs c.gcd-divisor.result) (unsigned_abs c.common_divisor.result) c.args.numbers.items divides.1 of_row)

pub returns-clause-lowest : goal.returns-clause-lowest
returns-clause-lowest c =
    let fits : FitsSigned w128 c.gcd-divisor.result = search rules in
    let fits_common : FitsSigned w128 c.common_divisor.result = search rules in
    let fits_quotient : FitsSigned w128 c.exact_quotient.result = search rules in
    let divides : IsGcd (unsigned_abs c.args.den) (unsigned_abs c.common_divisor.result) (unsigned_abs c.gcd-divisor.result) = rw (to_z-of_z c.ranges.den, to_z-of_z fits_common) at c.gcd-divisor.ensures.divides in
    let of_row : IsDivisorOf (unsigned_abs c.common_divisor.result) c.args.numbers.items = rw c.as_slice.ensures.value at c.common_divisor.ensures.divisor in
    let some : (pos 0) <ℤ c.gcd-divisor.result = divisor_of_some c.gcd-divisor.result c.args.den (positive-ne c.args.den c.requires.positive) c.gcd-divisor.ensures.sign divides.0 in
    let divided : IsDivided c.gcd-divisor.result c.args.numbers.items c.divided_by.result = rw (to_z-of_z fits) at c.divided_by.ensures in
    rw (to_z-of_z fits_quotient) (lowest_is c.gcd-divisor.result c.args.den c.exact_quotient.result c.args.numbers.items c.divided_by.result (unsigned_abs c.common_divisor.result) some divides of_row (rw (to_z-of_z c.ranges.den, to_z-of_z fits) at c.exact_quotient.ensures.value) divided)
