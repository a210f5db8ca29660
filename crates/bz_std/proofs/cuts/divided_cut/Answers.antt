use Rattle.std.proofs.Common.{rules, ◌+◌, ℤ, pos, ◌<ℤ◌, List, FitsSigned, to_z-of_z}
use Rattle.std.specs.Int.{w128}
use Rattle.std.specs.Int.RustNames.{unsigned_abs}
use Rattle.bz_algebra.proofs.Ring.{positive-ne}
use Rattle.bz_num.specs.Dense.{IsDivided, IsDivisorOf, entry}
use Rattle.bz_std.proofs.CutNumbers.{divided_numbers, some_divisor}
use Rattle.bz_std.proofs.cuts.divided_cut.Goals as goal

pub divided_by-divided-requires-clause-nonzero : goal.divided_by-divided-requires-clause-nonzero
divided_by-divided-requires-clause-nonzero c =
    let gcd : ℤ = c.common_divisor-gcd.result in
    let fits : FitsSigned w128 gcd = search rules in
    let divisor : IsDivisorOf (unsigned_abs gcd) c.args.numbers.items = rw c.as_slice.ensures.value at c.common_divisor-gcd.ensures.divisor in
    rw (to_z-of_z fits) (positive-ne gcd (some_divisor gcd c.args.numbers.items c.common_divisor-gcd.ensures.sign divisor c.requires.some))

pub divided_by-divided-requires-clause-divides : goal.divided_by-divided-requires-clause-divides
divided_by-divided-requires-clause-divides c =
    let gcd : ℤ = c.common_divisor-gcd.result in
    let fits : FitsSigned w128 gcd = search rules in
    let divisor : IsDivisorOf (unsigned_abs gcd) c.args.numbers.items = rw c.as_slice.ensures.value at c.common_divisor-gcd.ensures.divisor in
    rw (to_z-of_z fits) divisor.divides

pub returns-clause-numbers : goal.returns-clause-numbers
returns-clause-numbers c =
    let gcd : ℤ = c.common_divisor-gcd.result in
    let fits : FitsSigned w128 gcd = search rules in
    let divisor : IsDivisorOf (unsigned_abs gcd) c.args.numbers.items = rw c.as_slice.ensures.value at c.common_divisor-gcd.ensures.divisor in
    let some : (pos 0) <ℤ gcd = some_divisor gcd c.args.numbers.items c.common_divisor-gcd.ensures.sign divisor c.requires.some in
    let new : List ℤ = c.as_slice-lowest.result.now in
    let divided : IsDivided gcd c.args.numbers.items new = rw (c.as_slice-lowest.ensures, ← to_z-of_z fits) c.divided_by-divided.ensures in
    let fits_p0 : FitsSigned w128 (entry new c.args.width) = search rules in
    let fits_beta : FitsSigned w128 (entry new (c.args.width + 1)) = search rules in
    divided_numbers c.args.width gcd c.args.numbers.items new _ c.requires.count some divisor divided c.in_ok-entries_of.ensures (to_z-of_z fits) (to_z-of_z fits_p0) (to_z-of_z fits_beta)
