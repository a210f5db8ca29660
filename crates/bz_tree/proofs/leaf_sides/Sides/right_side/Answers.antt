-- The side with the number is the one in its own list.
use Rattle.std.proofs.Common.{rules, ◌≡◌, neg_ℤ, FitsSigned, to_z-of_z, sym, ◌∙◌, ap, ℤ, pos, slice_index_or}
use Rattle.std.specs.Int.{w128}
use Rattle.bz_model.specs.declared.Ineq.{Ineq}
use Rattle.bz_cut.specs.declared.Cut.{Cut}
use Rattle.bz_tree.specs.LeafSides.{sides_in}
use Rattle.bz_tree.proofs.LeafSides.{cut_at, lower_at, rhs_is, row_at, upper_at}
use Rattle.bz_tree.proofs.leaf_sides.Sides.right_side.Goals as goal

pub returns-in-Row : goal.returns-in-Row
returns-in-Row c =
    let row : Ineq = slice_index_or c.args.self.now.rows.now c.in-Row.i c.index-self-i.result in
    let fits : FitsSigned w128 row.rhs = search rules in
    let here = row_at c.args.self.now.rows.now c.args.self.now.positions.now (record { lower = c.args.self.now.lower.now; upper = c.args.self.now.upper.now }) c.args.self.now.cuts.now c.args.n c.in-Row.i c.index-self-i.result c.in-Row.ensures in
    rw (to_z-of_z fits) (ap (λ (i : Ineq). i.rhs) (sym here) ∙ rhs_is (sides_in c.args.self.now) c.args.n)

pub returns-in-Upper : goal.returns-in-Upper
returns-in-Upper c =
    let end : ℤ = slice_index_or c.args.self.now.upper.now c.in-Upper.k (pos 0) in
    let fits : FitsSigned w128 end = search rules in
    let here = upper_at c.args.self.now.rows.now c.args.self.now.positions.now (record { lower = c.args.self.now.lower.now; upper = c.args.self.now.upper.now }) c.args.self.now.cuts.now c.args.n c.in-Upper.k c.in-Upper.ensures in
    rw (to_z-of_z fits) (ap (λ (i : Ineq). i.rhs) (sym here) ∙ rhs_is (sides_in c.args.self.now) c.args.n)

pub returns-in-Lower : goal.returns-in-Lower
returns-in-Lower c =
    let end : ℤ = slice_index_or c.args.self.now.lower.now c.in-Lower.k (pos 0) in
    let fits : FitsSigned w128 c.narrow_negation.result = search rules in
    let fits_end : FitsSigned w128 end = search rules in
    let turned : c.narrow_negation.result ≡ neg_ℤ end = rw (to_z-of_z fits_end) at c.narrow_negation.ensures.value in
    let here = lower_at c.args.self.now.rows.now c.args.self.now.positions.now (record { lower = c.args.self.now.lower.now; upper = c.args.self.now.upper.now }) c.args.self.now.cuts.now c.args.n c.in-Lower.k c.in-Lower.ensures in
    rw (to_z-of_z fits) (turned ∙ ap (λ (i : Ineq). i.rhs) (sym here) ∙ rhs_is (sides_in c.args.self.now) c.args.n)

pub returns-in-OfCut : goal.returns-in-OfCut
returns-in-OfCut c =
    let cut : Cut = slice_index_or c.args.self.now.cuts.now c.in-OfCut.i c.index-self-i-in-OfCut.result in
    let fits : FitsSigned w128 cut.beta = search rules in
    let here = cut_at c.args.self.now.rows.now c.args.self.now.positions.now (record { lower = c.args.self.now.lower.now; upper = c.args.self.now.upper.now }) c.args.self.now.cuts.now c.args.n c.in-OfCut.i c.index-self-i-in-OfCut.result c.in-OfCut.ensures in
    rw (to_z-of_z fits) (ap (λ (i : Ineq). i.rhs) (sym here) ∙ rhs_is (sides_in c.args.self.now) c.args.n)
