-- Each turn takes in one number more.
use Rattle.std.proofs.Common.{◌≡◌, rules, arith, subst, refl, FitsSigned, to_z, to_z-of_z, get_or, ℤ, pos}
use Rattle.std.specs.Int.{w128}
use Rattle.std.specs.Int.RustNames.{unsigned_abs}
use Rattle.bz_num.proofs.DenseRows.{IsDivisorTo, divisor-more, divisor-one}
use Rattle.bz_num.proofs.divisor.common_divisor.Goals as goal

pub returns-then-divisor-eq1-clause-divisor : goal.returns-then-divisor-eq1-clause-divisor
returns-then-divisor-eq1-clause-divisor c =
    let divisor : ℤ = to_z w128 c.loop-number.divisor-bits in
    let is : divisor ≡ pos 1 = rw c.if-divisor-eq1.true refl in
    divisor-one c.loop-number.number-index c.args.row.now (subst (λ (z : ℤ). IsDivisorTo c.loop-number.number-index (unsigned_abs z) c.args.row.now) is c.loop-number.invariant.divisor)

pub loop-number-preserved : goal.loop-number-preserved
loop-number-preserved c =
    let fits : FitsSigned w128 c.gcd-divisor.result = search rules in
    let number : ℤ = get_or c.args.row.now c.loop-number.number-index (pos 0) in
    let number_fits : FitsSigned w128 number = search rules in
    let divides = rw (to_z-of_z number_fits) at c.gcd-divisor.ensures.divides in
    record {
      divisor = rw (to_z-of_z fits) (divisor-more c.loop-number.number-index (unsigned_abs (to_z w128 c.loop-number.divisor-bits)) (unsigned_abs c.gcd-divisor.result) c.args.row.now c.loop-number.invariant.divisor (omega arith) divides);
      sign = search rules;
      narrow = search rules;
    }
