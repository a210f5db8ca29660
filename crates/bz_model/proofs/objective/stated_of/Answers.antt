-- The denominator is the product of two positive numbers, and both numbers are there exactly where nothing is wide.
use Rattle.std.proofs.Common.{rules, refl, ◌≡◌, ◌*ℤ◌, FitsSigned, to_z-of_z}
use Rattle.std.specs.Int.{w128}
use Rattle.bz_algebra.proofs.Ring.{mul_positive}
use Rattle.bz_algebra.specs.Numbers.{IsNarrow}
use Rattle.bz_num.specs.Fold.{IsNarrowSum}
use Rattle.bz_num.proofs.NarrowSums.{narrow_for, narrow_where_ok, wide_where_err}
use Rattle.bz_model.specs.PointSums.{stated_pairs}
use Rattle.bz_model.proofs.objective.stated_of.Goals as goal

pub lowest-requires-clause-positive : goal.lowest-requires-clause-positive
lowest-requires-clause-positive c =
    let fits : FitsSigned w128 c.in-Ok-Some.den = search rules in
    let same : c.in-Ok-Some.den ≡ c.args.model.now.scale *ℤ c.args.den = search rules in
    rw (to_z-of_z fits, same) (mul_positive c.args.model.now.scale c.args.den c.args.model.now.scale_positive c.requires)

pub lowest-requires-clause-narrow_num : goal.lowest-requires-clause-narrow_num
lowest-requires-clause-narrow_num c =
    let fits : FitsSigned w128 c.in-Ok-Some.num = search rules in
    rw (to_z-of_z fits) (narrow_for (stated_pairs c.args.model.now c.args.value c.args.den) c.numerator.result (rw (to_z-of_z c.ranges.value, to_z-of_z c.ranges.den) at c.numerator.ensures.fold) c.in-Ok-Some.num c.in-Ok-Some.is-0)

pub returns-in-Ok-Some-clause-fits : goal.returns-in-Ok-Some-clause-fits
returns-in-Ok-Some-clause-fits c =
    let sum : IsNarrowSum (stated_pairs c.args.model.now c.args.value c.args.den) = narrow_where_ok (stated_pairs c.args.model.now c.args.value c.args.den) c.numerator.result c.in-Ok-Some.num (rw (to_z-of_z c.ranges.value, to_z-of_z c.ranges.den) at c.numerator.ensures.fold) c.in-Ok-Some.is-0 in
    let product : IsNarrow (c.args.model.now.scale *ℤ c.args.den) = search rules in
    (λ t. record { sum = sum; product = product }, λ f. refl)

pub returns-in_default-2-clause-fits : goal.returns-in_default-2-clause-fits
returns-in_default-2-clause-fits c = (
  λ t. absurd cc,
  λ f. absurd (wide_where_err (stated_pairs c.args.model.now c.args.value c.args.den) c.numerator.result c.in_default.field-0-0 (rw (to_z-of_z c.ranges.value, to_z-of_z c.ranges.den) at c.numerator.ensures.fold) c.in_default.is-0 f.sum),
)
