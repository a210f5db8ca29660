use Rattle.std.proofs.Common.{rules, ◌≡◌, ℤ, pos, ◌+ℤ◌, ◌*ℤ◌, ◌<ℤ◌, arith, FitsSigned, to_z-of_z}
use Rattle.std.proofs.lemmas.Int.{ints, fits_signed_from_abs}
use Rattle.std.specs.Int.{w128}
use Rattle.bz_algebra.specs.Numbers.{IsNarrow}
use Rattle.bz_num.specs.Rounding.{IsCeiling}
use Rattle.bz_num.proofs.Rounding.{ceiling_above, ceiling_narrow, ceiling_same}
use Rattle.bz_num.proofs.fraction.Frac.ceiling.Goals as goal

pub returns-then-rest-gt0-clause-value : goal.returns-then-rest-gt0-clause-value
returns-then-rest-gt0-clause-value c =
    let q : ℤ = c.divide-quotient.result.0 in
    let r : ℤ = c.divide-quotient.result.1 in
    let fits_q : FitsSigned w128 q = search rules in
    let fits_r : FitsSigned w128 r = search rules in
    let fits_num : FitsSigned w128 c.args.self.num = search rules in
    let fits_den : FitsSigned w128 c.args.self.den = search rules in
    let whole : (q *ℤ c.args.self.den) +ℤ r ≡ c.args.self.num = rw (to_z-of_z fits_num, to_z-of_z fits_den) at c.divide-quotient.ensures.whole in
    let below : r <ℤ c.args.self.den = rw (to_z-of_z fits_den) at c.divide-quotient.ensures.below in
    let test = rw (to_z-of_z fits_r) at c.if-rest-gt0.true in
    let some : pos 0 <ℤ r = grind (arith, ints) in
    let is : IsCeiling c.args.self (q +ℤ pos 1) = ceiling_above c.args.self q r whole some below in
    let next : FitsSigned w128 (q +ℤ pos 1) = fits_signed_from_abs w128 (q +ℤ pos 1) (ceiling_narrow c.args.self (q +ℤ pos 1) is) in
    rw (to_z-of_z fits_q, to_z-of_z next) is

pub returns-then-rest-gt0-clause-narrow : goal.returns-then-rest-gt0-clause-narrow
returns-then-rest-gt0-clause-narrow c =
    let q : ℤ = c.divide-quotient.result.0 in
    let r : ℤ = c.divide-quotient.result.1 in
    let fits_q : FitsSigned w128 q = search rules in
    let fits_r : FitsSigned w128 r = search rules in
    let fits_num : FitsSigned w128 c.args.self.num = search rules in
    let fits_den : FitsSigned w128 c.args.self.den = search rules in
    let whole : (q *ℤ c.args.self.den) +ℤ r ≡ c.args.self.num = rw (to_z-of_z fits_num, to_z-of_z fits_den) at c.divide-quotient.ensures.whole in
    let below : r <ℤ c.args.self.den = rw (to_z-of_z fits_den) at c.divide-quotient.ensures.below in
    let test = rw (to_z-of_z fits_r) at c.if-rest-gt0.true in
    let some : pos 0 <ℤ r = grind (arith, ints) in
    let narrow : IsNarrow (q +ℤ pos 1) = ceiling_narrow c.args.self (q +ℤ pos 1) (ceiling_above c.args.self q r whole some below) in
    let next : FitsSigned w128 (q +ℤ pos 1) = fits_signed_from_abs w128 (q +ℤ pos 1) narrow in
    rw (to_z-of_z fits_q, to_z-of_z next) narrow

pub returns-else-rest-gt0-clause-value : goal.returns-else-rest-gt0-clause-value
returns-else-rest-gt0-clause-value c =
    let q : ℤ = c.divide-quotient.result.0 in
    let r : ℤ = c.divide-quotient.result.1 in
    let fits_q : FitsSigned w128 q = search rules in
    let fits_r : FitsSigned w128 r = search rules in
    let fits_num : FitsSigned w128 c.args.self.num = search rules in
    let fits_den : FitsSigned w128 c.args.self.den = search rules in
    let whole : (q *ℤ c.args.self.den) +ℤ r ≡ c.args.self.num = rw (to_z-of_z fits_num, to_z-of_z fits_den) at c.divide-quotient.ensures.whole in
    let below : r <ℤ c.args.self.den = rw (to_z-of_z fits_den) at c.divide-quotient.ensures.below in
    let test = rw (to_z-of_z fits_r) at c.if-rest-gt0.false in
    let none : r ≡ pos 0 = grind (arith, ints) in
    rw (to_z-of_z fits_q) (ceiling_same c.args.self q r whole none)
