-- Behind the right side come the columns of the first basis.
use Rattle.std.proofs.Common.{sym, ◌∙◌, ap, ℕ, rules, FitsSigned, to_z-of_z}
use Rattle.std.specs.Int.{w128}
use Rattle.bz_tableau.specs.Tables.{shown}
use Rattle.bz_lex.proofs.PhaseSteps.{order_later}
use Rattle.bz_lex.proofs.leaving.number_at.Goals as goal

pub returns-else-place-eq0 : goal.returns-else-place-eq0
returns-else-place-eq0 c =
    let fits : FitsSigned w128 c.entry.result = search rules in
    rw (to_z-of_z fits) (c.entry.ensures.value ∙ ap (λ (j : ℕ). shown c.args.tableau.now c.args.row j) (sym (order_later c.args.tableau.now c.args.first.now c.args.place c.if-place-eq0.false)))
