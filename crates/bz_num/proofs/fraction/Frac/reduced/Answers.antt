use Rattle.std.proofs.Common.{rules, FitsSigned, to_z-of_z, ◌≡◌, ◌*ℤ◌}
use Rattle.std.specs.Int.{IsGcd, w128}
use Rattle.std.specs.Int.RustNames.{unsigned_abs}
use Rattle.bz_algebra.proofs.Ring.{positive-ne}
use Rattle.bz_num.proofs.Lowest.{gcd_positive, lowest_of, other_positive}
use Rattle.bz_num.proofs.fraction.Frac.reduced.Goals as goal

pub exact_quotient-requires-clause-nonzero : goal.exact_quotient-requires-clause-nonzero
exact_quotient-requires-clause-nonzero c =
    let num : FitsSigned w128 c.args.num = search rules in
    let den : FitsSigned w128 c.args.den = search rules in
    let divisor : FitsSigned w128 c.gcd-divisor.result = search rules in
    let gcd : IsGcd (unsigned_abs c.args.num) (unsigned_abs c.args.den) (unsigned_abs c.gcd-divisor.result) = simp (to_z-of_z num, to_z-of_z den) at c.gcd-divisor.ensures.divides in
    rw (to_z-of_z divisor) (positive-ne c.gcd-divisor.result (gcd_positive c.args.num c.args.den c.gcd-divisor.result c.requires.positive c.gcd-divisor.ensures.sign gcd))

pub exact_quotient-requires-clause-divides : goal.exact_quotient-requires-clause-divides
exact_quotient-requires-clause-divides c =
    let num : FitsSigned w128 c.args.num = search rules in
    let den : FitsSigned w128 c.args.den = search rules in
    let divisor : FitsSigned w128 c.gcd-divisor.result = search rules in
    let gcd : IsGcd (unsigned_abs c.args.num) (unsigned_abs c.args.den) (unsigned_abs c.gcd-divisor.result) = simp (to_z-of_z num, to_z-of_z den) at c.gcd-divisor.ensures.divides in
    rw (to_z-of_z divisor, to_z-of_z num) gcd.0

pub exact_quotient-requires-2-clause-nonzero : goal.exact_quotient-requires-2-clause-nonzero
exact_quotient-requires-2-clause-nonzero c =
    let num : FitsSigned w128 c.args.num = search rules in
    let den : FitsSigned w128 c.args.den = search rules in
    let divisor : FitsSigned w128 c.gcd-divisor.result = search rules in
    let gcd : IsGcd (unsigned_abs c.args.num) (unsigned_abs c.args.den) (unsigned_abs c.gcd-divisor.result) = simp (to_z-of_z num, to_z-of_z den) at c.gcd-divisor.ensures.divides in
    rw (to_z-of_z divisor) (positive-ne c.gcd-divisor.result (gcd_positive c.args.num c.args.den c.gcd-divisor.result c.requires.positive c.gcd-divisor.ensures.sign gcd))

pub exact_quotient-requires-2-clause-divides : goal.exact_quotient-requires-2-clause-divides
exact_quotient-requires-2-clause-divides c =
    let num : FitsSigned w128 c.args.num = search rules in
    let den : FitsSigned w128 c.args.den = search rules in
    let divisor : FitsSigned w128 c.gcd-divisor.result = search rules in
    let gcd : IsGcd (unsigned_abs c.args.num) (unsigned_abs c.args.den) (unsigned_abs c.gcd-divisor.result) = simp (to_z-of_z num, to_z-of_z den) at c.gcd-divisor.ensures.divides in
    rw (to_z-of_z divisor, to_z-of_z den) gcd.1

pub invariant_of-result : goal.invariant_of-result
invariant_of-result c =
    let den : FitsSigned w128 c.args.den = search rules in
    let divisor : FitsSigned w128 c.gcd-divisor.result = search rules in
    let first : FitsSigned w128 c.exact_quotient.result = search rules in
    let second : FitsSigned w128 c.exact_quotient-2.result = search rules in
    let product : c.args.den ≡ c.gcd-divisor.result *ℤ c.exact_quotient-2.result = simp (to_z-of_z den, to_z-of_z divisor) at c.exact_quotient-2.ensures.value in
    record {
      positive = rw (to_z-of_z second) (other_positive c.args.den c.gcd-divisor.result c.exact_quotient-2.result c.requires.positive c.gcd-divisor.ensures.sign product);
      narrow_num = rw (to_z-of_z first) c.exact_quotient.ensures.narrow;
      narrow_den = rw (to_z-of_z second) c.exact_quotient-2.ensures.narrow;
    }

pub returns : goal.returns
returns c =
    let num : FitsSigned w128 c.args.num = search rules in
    let den : FitsSigned w128 c.args.den = search rules in
    let divisor : FitsSigned w128 c.gcd-divisor.result = search rules in
    let first : FitsSigned w128 c.exact_quotient.result = search rules in
    let second : FitsSigned w128 c.exact_quotient-2.result = search rules in
    let gcd : IsGcd (unsigned_abs c.args.num) (unsigned_abs c.args.den) (unsigned_abs c.gcd-divisor.result) = simp (to_z-of_z num, to_z-of_z den) at c.gcd-divisor.ensures.divides in
    let nums : c.args.num ≡ c.gcd-divisor.result *ℤ c.exact_quotient.result = simp (to_z-of_z num, to_z-of_z divisor) at c.exact_quotient.ensures.value in
    let dens : c.args.den ≡ c.gcd-divisor.result *ℤ c.exact_quotient-2.result = simp (to_z-of_z den, to_z-of_z divisor) at c.exact_quotient-2.ensures.value in
    lowest_of c.args.num c.args.den c.gcd-divisor.result _ (gcd_positive c.args.num c.args.den c.gcd-divisor.result c.requires.positive c.gcd-divisor.ensures.sign gcd)
    (simp (to_z-of_z first) nums) (simp (to_z-of_z second) dens) gcd
