use Rattle.std.proofs.Common.{rules, ◌≡◌, [], ◌∷◌, ◌+◌, length, ℤ, neg_ℤ, Ok, Err, FitsSigned, to_z-of_z}
use Rattle.std.specs.Int.{w128}
use Rattle.bz_num.specs.Fold.{fold_from, fold_of, pairs_at}
use Rattle.bz_model.specs.PartPoints.{eta_of}
use Rattle.bz_model.specs.Points.{coordinate}
use Rattle.bz_cut.proofs.CuttingSums.{row_wide, second_wide, third_is}
use Rattle.bz_cut.proofs.points.excess.Goals as goal

pub returns-in_err-at_master : goal.returns-in_err-at_master
returns-in_err-at_master c =
    row_wide c.args.cut.now.alpha (coordinate c.args.point.now.x) ((neg_ℤ c.args.cut.now.p0, eta_of c.args.point.now c.args.cut.now.block) ∷ (neg_ℤ c.args.cut.now.beta, c.args.point.now.den) ∷ []) c.in_err-at_master.field-0.0 c.from_residual.result c.from_residual.ensures.1 (rw c.as_slice-2.ensures at c.in_err-at_master.ensures)

pub returns-in_err-at_point : goal.returns-in_err-at_point
returns-in_err-at_point c =
    let first : Ok c.in_ok-at_master.at_master ≡ fold_of (pairs_at c.args.cut.now.alpha (coordinate c.args.point.now.x)) = rw c.as_slice-2.ensures at c.in_ok-at_master.ensures in
    let fits : FitsSigned w128 c.in_ok-at_master.at_master = search rules in
    let eta : ℤ = eta_of c.args.point.now c.args.cut.now.block in
    let fits_eta : FitsSigned w128 eta = search rules in
    let fits_p0 : FitsSigned w128 c.args.cut.now.p0 = search rules in
    let p0 : c.narrow_negation.result ≡ neg_ℤ c.args.cut.now.p0 = rw (to_z-of_z fits_p0) at c.narrow_negation.ensures.value in
    let fits_turned : FitsSigned w128 c.narrow_negation.result = search rules in
    let second : Err c.in_err-at_point.field-0.0 ≡ fold_from (length c.args.cut.now.alpha) c.in_ok-at_master.at_master ((neg_ℤ c.args.cut.now.p0, eta) ∷ []) = rw (c.as_slice-place.ensures.value, c.as_slice.ensures, to_z-of_z fits, to_z-of_z fits_turned, p0, to_z-of_z fits_eta) at c.in_err-at_point.ensures in
    second_wide c.args.cut.now.alpha (coordinate c.args.point.now.x) (neg_ℤ c.args.cut.now.p0, eta) (neg_ℤ c.args.cut.now.beta, c.args.point.now.den) c.in_ok-at_master.at_master c.in_err-at_point.field-0.0 c.from_residual-in_err-at_point.result c.from_residual-in_err-at_point.ensures.1 first second

pub returns : goal.returns
returns c =
    let first : Ok c.in_ok-at_master.at_master ≡ fold_of (pairs_at c.args.cut.now.alpha (coordinate c.args.point.now.x)) = rw c.as_slice-2.ensures at c.in_ok-at_master.ensures in
    let fits : FitsSigned w128 c.in_ok-at_master.at_master = search rules in
    let eta : ℤ = eta_of c.args.point.now c.args.cut.now.block in
    let fits_eta : FitsSigned w128 eta = search rules in
    let fits_p0 : FitsSigned w128 c.args.cut.now.p0 = search rules in
    let p0 : c.narrow_negation.result ≡ neg_ℤ c.args.cut.now.p0 = rw (to_z-of_z fits_p0) at c.narrow_negation.ensures.value in
    let fits_turned : FitsSigned w128 c.narrow_negation.result = search rules in
    let fits_beta : FitsSigned w128 c.args.cut.now.beta = search rules in
    let fits_den : FitsSigned w128 c.args.point.now.den = search rules in
    let beta : c.narrow_negation-2.result ≡ neg_ℤ c.args.cut.now.beta = rw (to_z-of_z fits_beta) at c.narrow_negation-2.ensures.value in
    let fits_side : FitsSigned w128 c.narrow_negation-2.result = search rules in
    let fits_point : FitsSigned w128 c.in_ok-at_point.at_point = search rules in
    let second : Ok c.in_ok-at_point.at_point ≡ fold_from (length c.args.cut.now.alpha) c.in_ok-at_master.at_master ((neg_ℤ c.args.cut.now.p0, eta) ∷ []) = rw (c.as_slice-place.ensures.value, c.as_slice.ensures, to_z-of_z fits, to_z-of_z fits_turned, p0, to_z-of_z fits_eta) at c.in_ok-at_point.ensures in
    let third : c.with_product-2.result ≡ fold_from (length c.args.cut.now.alpha + 1) c.in_ok-at_point.at_point ((neg_ℤ c.args.cut.now.beta, c.args.point.now.den) ∷ []) = rw (c.as_slice-place.ensures.value, to_z-of_z fits_point, to_z-of_z fits_side, beta, to_z-of_z fits_den) at c.with_product-2.ensures in
    third_is c.args.cut.now.alpha (coordinate c.args.point.now.x) (neg_ℤ c.args.cut.now.p0, eta) (neg_ℤ c.args.cut.now.beta, c.args.point.now.den) c.in_ok-at_master.at_master c.in_ok-at_point.at_point c.with_product-2.result first second third
