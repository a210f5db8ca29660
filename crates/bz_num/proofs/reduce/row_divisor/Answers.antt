-- Each turn takes in one number more.
use Rattle.std.proofs.Common.{refl, rules, arith, FitsSigned, to_z, to_z-of_z, get_or, ℕ, ℤ, pos}
use Rattle.std.specs.Int.{w128}
use Rattle.std.specs.Int.RustNames.{unsigned_abs}
use Rattle.std.proofs.Math.ListN.{drop_of_length-le}
use Rattle.bz_num.proofs.Reduces.{row_gcd-start, row_gcd-one, row_gcd-more, row_gcd-side, size-gcd_zero, narrow-at}
use Rattle.bz_num.proofs.reduce.row_divisor.Goals as goal

pub loop-entry-init : goal.loop-entry-init
loop-entry-init c =
    let first_fits : FitsSigned w128 c.gcd-divisor.result = search rules in
    let rhs_fits : FitsSigned w128 c.args.rhs = search rules in
    let divides = rw (to_z-of_z rhs_fits) at c.gcd-divisor.ensures.divides in
    record { kept = λ g h. rw (to_z-of_z rhs_fits) (row_gcd-side g c.gcd-divisor.result c.args.rhs c.args.entries.now (size-gcd_zero c.args.rhs c.gcd-divisor.result divides) (rw (to_z-of_z first_fits) at h)); sign = search rules; narrow = search rules }

pub returns-then-divisor-eq1-clause-divisor : goal.returns-then-divisor-eq1-clause-divisor
returns-then-divisor-eq1-clause-divisor c =
    let divisor : ℤ = to_z w128 c.loop-entry.divisor-bits in
    let rhs_fits : FitsSigned w128 c.args.rhs = search rules in
    rw (to_z-of_z rhs_fits) at (c.loop-entry.invariant.kept 1 (row_gcd-one divisor _ (rw c.if-divisor-eq1.true refl)))

pub gcd-divisor-requires-in-loop-entry-clause-right : goal.gcd-divisor-requires-in-loop-entry-clause-right
gcd-divisor-requires-in-loop-entry-clause-right c =
    let entry : ℕ × ℤ = get_or c.args.entries.now c.loop-entry.entry-index (0, pos 0) in
    let fits : FitsSigned w128 entry.1 = search rules in
    rw (to_z-of_z fits) (narrow-at 0 c.args.entries.now c.loop-entry.entry-index (0, pos 0) c.requires.sparse (omega arith))

pub loop-entry-preserved : goal.loop-entry-preserved
loop-entry-preserved c =
    let fits : FitsSigned w128 c.gcd-divisor-in-loop-entry.result = search rules in
    let entry : ℕ × ℤ = get_or c.args.entries.now c.loop-entry.entry-index (0, pos 0) in
    let entry_fits : FitsSigned w128 entry.1 = search rules in
    let divides = rw (to_z-of_z entry_fits) at c.gcd-divisor-in-loop-entry.ensures.divides in
    record { kept = λ g h. c.loop-entry.invariant.kept g (row_gcd-more g (to_z w128 c.loop-entry.divisor-bits) c.gcd-divisor-in-loop-entry.result c.args.entries.now c.loop-entry.entry-index (0, pos 0) (omega arith) divides (rw (to_z-of_z fits) at h)); sign = search rules; narrow = search rules }

pub returns-clause-divisor : goal.returns-clause-divisor
returns-clause-divisor c =
    let divisor : ℤ = to_z w128 c.loop-entry.divisor-bits in
    let rhs_fits : FitsSigned w128 c.args.rhs = search rules in
    let rest = drop_of_length-le c.args.entries.now c.loop-entry-test.false in
    rw (to_z-of_z rhs_fits) at (c.loop-entry.invariant.kept (unsigned_abs divisor) (rw rest (row_gcd-start divisor)))
