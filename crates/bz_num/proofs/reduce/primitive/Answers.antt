-- Above 1 the row and the side are divided; at 0 and 1 they are that many times themselves.
use Rattle.std.proofs.Common.{rules, sym, arith, FitsSigned, to_z-of_z, ℤ, pos, ◌≤ℤ◌, ◌<ℤ◌}
use Rattle.std.proofs.lemmas.Int.{ints}
use Rattle.std.specs.Int.{w128}
use Rattle.std.specs.Int.RustNames.{unsigned_abs, int_div}
use Rattle.bz_num.specs.Primitive.{IsRowGcd}
use Rattle.bz_num.proofs.Divisors.{divided_z, quotient_fits, unit-times}
use Rattle.bz_num.proofs.Reduces.{row_gcd-reduced, row_gcd-unit, unit-times_entries}
use Rattle.bz_num.proofs.reduce.primitive.Goals as goal

pub returns-then-divisor-gt1-clause-side : goal.returns-then-divisor-gt1-clause-side
returns-then-divisor-gt1-clause-side c =
    let divisor : ℤ = c.row_divisor-divisor.result in
    let side : ℤ = c.args.rhs.now in
    let fits : FitsSigned w128 divisor = search rules in
    let side_fits : FitsSigned w128 side = search rules in
    let known : IsRowGcd (unsigned_abs divisor) c.args.row.now side = search rules in
    let some : pos 0 <ℤ divisor = grind (arith, ints) in
    rw (to_z-of_z fits, to_z-of_z side_fits, to_z-of_z (quotient_fits divisor side some side_fits)) (sym (divided_z divisor side some known.side))

pub returns-then-divisor-gt1-clause-reduced : goal.returns-then-divisor-gt1-clause-reduced
returns-then-divisor-gt1-clause-reduced c =
    let divisor : ℤ = c.row_divisor-divisor.result in
    let side : ℤ = c.args.rhs.now in
    let fits : FitsSigned w128 divisor = search rules in
    let side_fits : FitsSigned w128 side = search rules in
    let known : IsRowGcd (unsigned_abs divisor) c.args.row.now side = search rules in
    let some : pos 0 <ℤ divisor = grind (arith, ints) in
    let divided = rw (to_z-of_z fits) at c.divide_by.ensures in
    λ _. rw (to_z-of_z side_fits, to_z-of_z fits, to_z-of_z (quotient_fits divisor side some side_fits)) (row_gcd-reduced divisor c.divide_by.new.self c.args.row.now (int_div side divisor) side some known divided (sym (divided_z divisor side some known.side)))

pub returns-else-divisor-gt1-clause-numbers : goal.returns-else-divisor-gt1-clause-numbers
returns-else-divisor-gt1-clause-numbers c =
    let divisor : ℤ = c.row_divisor-divisor.result in
    let fits : FitsSigned w128 divisor = search rules in
    let known : IsRowGcd (unsigned_abs divisor) c.args.row.now c.args.rhs.now = search rules in
    let small : divisor ≤ℤ pos 1 = grind (arith, ints) in
    rw (to_z-of_z fits) (unit-times_entries divisor c.args.row.now c.row_divisor-divisor.ensures.sign small known.numbers)

pub returns-else-divisor-gt1-clause-side : goal.returns-else-divisor-gt1-clause-side
returns-else-divisor-gt1-clause-side c =
    let divisor : ℤ = c.row_divisor-divisor.result in
    let fits : FitsSigned w128 divisor = search rules in
    let known : IsRowGcd (unsigned_abs divisor) c.args.row.now c.args.rhs.now = search rules in
    let small : divisor ≤ℤ pos 1 = grind (arith, ints) in
    rw (to_z-of_z fits) (unit-times divisor c.args.rhs.now c.row_divisor-divisor.ensures.sign small known.side)

pub returns-else-divisor-gt1-clause-reduced : goal.returns-else-divisor-gt1-clause-reduced
returns-else-divisor-gt1-clause-reduced c =
    let divisor : ℤ = c.row_divisor-divisor.result in
    let fits : FitsSigned w128 divisor = search rules in
    let known : IsRowGcd (unsigned_abs divisor) c.args.row.now c.args.rhs.now = search rules in
    let small : divisor ≤ℤ pos 1 = grind (arith, ints) in
    rw (to_z-of_z fits) (λ (some : pos 0 <ℤ divisor). row_gcd-unit divisor c.args.row.now c.args.rhs.now some small known)
