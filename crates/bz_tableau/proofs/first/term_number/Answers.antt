use Rattle.std.proofs.Common.{◌≡◌, rules, FitsSigned, to_z-of_z, ap, subst, ◌∙◌, ℕ, ℤ, List, get_or}
use Rattle.std.specs.Int.{w128}
use Rattle.bz_algebra.specs.Sums.{coef}
use Rattle.bz_tableau.specs.declared.programs.LpRow.{LpRow}
use Rattle.bz_tableau.proofs.FirstRows.{terms_at}
use Rattle.bz_tableau.proofs.first.term_number.Goals as goal

pub returns-clause-value : goal.returns-clause-value
returns-clause-value c =
    let fits : FitsSigned w128 c.number_at.result = search rules in
    let row : LpRow = c.index-as_slice-i.result in
    let is : row ≡ get_or c.args.lp.now.rows c.args.i row = subst (λ (rows : List LpRow). row ≡ get_or rows c.args.i row) c.as_slice.ensures c.index-as_slice-i.is in
    rw (to_z-of_z fits) (c.number_at.ensures.value ∙ ap (λ (es : List (ℕ × ℤ)). coef es c.args.j) (terms_at c.args.lp.now.rows c.args.i row is c.requires))
