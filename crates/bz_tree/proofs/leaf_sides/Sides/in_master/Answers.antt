-- The side with the number is the one in its own list.
use Rattle.std.proofs.Common.{rules, FitsSigned, to_z-of_z, sym, ◌∙◌, ap, ℕ, ℤ, List}
use Rattle.std.specs.Int.{w128}
use Rattle.bz_algebra.specs.Sums.{coef}
use Rattle.bz_model.specs.declared.Ineq.{Ineq}
use Rattle.bz_tree.specs.LeafSides.{sides_in}
use Rattle.bz_tree.proofs.LeafSides.{cut_at, lower_at, master_is, row_at, upper_at}
use Rattle.bz_tree.proofs.leaf_sides.Sides.in_master.Goals as goal

pub returns-in-Row : goal.returns-in-Row
returns-in-Row c =
    let fits : FitsSigned w128 c.at.result = search rules in
    let here = row_at c.args.self.now.rows.now c.args.self.now.positions.now (record { lower = c.args.self.now.lower.now; upper = c.args.self.now.upper.now }) c.args.self.now.cuts.now c.args.n c.in-Row.i c.index-self-i.result c.in-Row.ensures in
    rw (to_z-of_z fits) (c.at.ensures.value ∙ ap (λ (i : Ineq). coef i.master c.args.position) (sym here) ∙ ap (λ (es : List (ℕ × ℤ)). coef es c.args.position) (master_is (sides_in c.args.self.now) c.args.n))

pub returns-in-Upper : goal.returns-in-Upper
returns-in-Upper c =
    let fits : FitsSigned w128 c.only_at.result = search rules in
    let here = upper_at c.args.self.now.rows.now c.args.self.now.positions.now (record { lower = c.args.self.now.lower.now; upper = c.args.self.now.upper.now }) c.args.self.now.cuts.now c.args.n c.in-Upper.k c.in-Upper.ensures in
    rw (to_z-of_z fits) (c.only_at.ensures ∙ ap (λ (i : Ineq). coef i.master c.args.position) (sym here) ∙ ap (λ (es : List (ℕ × ℤ)). coef es c.args.position) (master_is (sides_in c.args.self.now) c.args.n))

pub returns-in-Lower : goal.returns-in-Lower
returns-in-Lower c =
    let fits : FitsSigned w128 c.only_at-in-Lower.result = search rules in
    let here = lower_at c.args.self.now.rows.now c.args.self.now.positions.now (record { lower = c.args.self.now.lower.now; upper = c.args.self.now.upper.now }) c.args.self.now.cuts.now c.args.n c.in-Lower.k c.in-Lower.ensures in
    rw (to_z-of_z fits) (c.only_at-in-Lower.ensures ∙ ap (λ (i : Ineq). coef i.master c.args.position) (sym here) ∙ ap (λ (es : List (ℕ × ℤ)). coef es c.args.position) (master_is (sides_in c.args.self.now) c.args.n))

pub returns-in-OfCut : goal.returns-in-OfCut
returns-in-OfCut c =
    let fits : FitsSigned w128 c.at-in-OfCut.result = search rules in
    let here = cut_at c.args.self.now.rows.now c.args.self.now.positions.now (record { lower = c.args.self.now.lower.now; upper = c.args.self.now.upper.now }) c.args.self.now.cuts.now c.args.n c.in-OfCut.i c.index-self-i-in-OfCut.result c.in-OfCut.ensures in
    rw (to_z-of_z fits) (c.at-in-OfCut.ensures.value ∙ ap (λ (i : Ineq). coef i.master c.args.position) (sym here) ∙ ap (λ (es : List (ℕ × ℤ)). coef es c.args.position) (master_is (sides_in c.args.self.now) c.args.n))
