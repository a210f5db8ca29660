-- The side with the number is the one in its own list.
use Rattle.std.proofs.Common.{rules, FitsSigned, to_z-of_z, sym, ◌∙◌, ap, ◌≡◌, ℕ, ℤ, List, neg_ℤ, slice_index_or}
use Rattle.std.specs.Int.{w128}
use Rattle.bz_algebra.specs.Sums.{coef}
use Rattle.bz_model.specs.declared.Ineq.{Ineq}
use Rattle.bz_cut.specs.declared.Cut.{Cut}
use Rattle.bz_tree.specs.LeafSides.{sides_in}
use Rattle.bz_tree.proofs.LeafSides.{cut_at, no_etas, own_is}
use Rattle.bz_tree.proofs.leaf_sides.Sides.on_eta.Goals as goal

pub returns-in-OfCut : goal.returns-in-OfCut
returns-in-OfCut c =
    let cut : Cut = slice_index_or c.args.self.now.cuts.now c.in-OfCut.i c.index-self-i.result in
    let fits : FitsSigned w128 c.only_at.result = search rules in
    let fits_turned : FitsSigned w128 c.narrow_negation.result = search rules in
    let fits_p0 : FitsSigned w128 cut.p0 = search rules in
    let turned : c.narrow_negation.result ≡ neg_ℤ cut.p0 = rw (to_z-of_z fits_p0) at c.narrow_negation.ensures.value in
    let value = rw (to_z-of_z fits_turned, turned, c.saturating_sub.ensures) at c.only_at.ensures in
    let here = cut_at c.args.self.now.rows.now c.args.self.now.positions.now (record { lower = c.args.self.now.lower.now; upper = c.args.self.now.upper.now }) c.args.self.now.cuts.now c.args.n c.in-OfCut.i c.index-self-i.result c.in-OfCut.ensures in
    rw (to_z-of_z fits) (value ∙ ap (λ (i : Ineq). coef i.own c.args.eta) (sym here) ∙ ap (λ (es : List (ℕ × ℤ)). coef es c.args.eta) (own_is (sides_in c.args.self.now) c.args.n))

pub returns-in_default : goal.returns-in_default
returns-in_default c = no_etas c.args.self.now.rows.now c.args.self.now.positions.now (record { lower = c.args.self.now.lower.now; upper = c.args.self.now.upper.now }) c.args.self.now.cuts.now c.args.n c.args.eta c.numbered.result c.numbered.ensures c.in_default.not-OfCut
