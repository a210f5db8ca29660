use Rattle.std.proofs.Common.{rules, ◌∙◌, ap, ℕ, ℤ, List, FitsSigned, to_z-of_z}
use Rattle.std.specs.Int.{w128}
use Rattle.bz_algebra.specs.Sums.{coef}
use Rattle.bz_cut.proofs.Steps.{own_at-is, master_at-is}
use Rattle.bz_cut.proofs.sums.AtPositionNumbers.number.Goals as goal

pub returns-in-Own : goal.returns-in-Own
returns-in-Own c =
    let fits : FitsSigned w128 c.at.result = search rules in
    rw (to_z-of_z fits, c.in-Own.is) (c.at.ensures.value ∙ ap (λ (es : List (ℕ × ℤ)). coef es c.args.self.now.position) (own_at-is c.args.self.now.rows.now c.args.place c.index-self-place.result c.requires))

pub returns-in-Master : goal.returns-in-Master
returns-in-Master c =
    let fits : FitsSigned w128 c.at-in-Master.result = search rules in
    rw (to_z-of_z fits, c.in-Master.is) (c.at-in-Master.ensures.value ∙ ap (λ (es : List (ℕ × ℤ)). coef es c.args.self.now.position) (master_at-is c.args.self.now.rows.now c.args.place c.index-self-place.result c.requires))
