use Rattle.std.proofs.Common.{rules, sym, pos, ◌<ℤ◌, FitsSigned, to_z-of_z, arith}
use Rattle.std.proofs.lemmas.Int.{ints}
use Rattle.std.specs.Int.{w128}
use Rattle.bz_num.proofs.Folds.{narrow-from_fold}
use Rattle.bz_cut.specs.Points.{cutting_pairs}
use Rattle.bz_cut.proofs.CuttingSums.{breaks, breaks_only, first_place}
use Rattle.bz_cut.proofs.points.cuts_off.Goals as goal

pub returns-in_err-sum-clause-wide : goal.returns-in_err-sum-clause-wide
returns-in_err-sum-clause-wide c = first_place (cutting_pairs c.args.cut.now c.args.point.now) c.in_err-sum.field-0.0 c.from_residual.result c.from_residual.ensures.1 c.in_err-sum.ensures

pub returns-clause-tells : goal.returns-clause-tells
returns-clause-tells c =
    let fits : FitsSigned w128 c.in_ok-sum.sum = search rules in
    rw (to_z-of_z fits) (
      λ above. breaks c.args.cut.now c.args.point.now c.in_ok-sum.sum c.in_ok-sum.ensures (grind (arith, ints)),
      λ off. let positive : (pos 0) <ℤ c.in_ok-sum.sum = breaks_only c.args.cut.now c.args.point.now c.in_ok-sum.sum c.in_ok-sum.ensures off in grind (arith, ints),
    )

pub returns-clause-narrow : goal.returns-clause-narrow
returns-clause-narrow c = narrow-from_fold (cutting_pairs c.args.cut.now c.args.point.now) c.in_ok-sum.sum (sym c.in_ok-sum.ensures)
