-- Each turn takes one row more.
use Rattle.std.proofs.Common.{◌≡◌, refl, length, subst, ℕ, ◌<◌, ◌⊎◌, rules, arith, add-one, FitsSigned, to_z-of_z}
use Rattle.std.specs.Int.{w128}
use Rattle.bz_lex.specs.Phases.{IsGreatestOf}
use Rattle.bz_lex.proofs.PhaseSteps.{greatest_last, greatest_more, greatest_all}
use Rattle.bz_lex.proofs.entering.greatest_size.Goals as goal

pub loop-row-init : goal.loop-row-init
loop-row-init c =
    let fits : FitsSigned w128 c.objective.result = search rules in
    let size = rw (to_z-of_z fits, c.objective.ensures.value) at c.unsigned_abs-greatest.ensures.value in
    rw size (greatest_last c.args.tableau.now c.args.column (length c.args.tableau.now.basis))

pub loop-row-preserved : goal.loop-row-preserved
loop-row-preserved c =
    let fits : FitsSigned w128 c.entry.result = search rules in
    let size = rw (to_z-of_z fits, c.entry.ensures.value) at c.unsigned_abs.ensures.value in
    rw (c.max-greatest.ensures, size, add-one) (greatest_more c.args.tableau.now c.args.column (length c.args.tableau.now.basis) c.loop-row.row c.loop-row.greatest c.loop-row.invariant)

pub returns : goal.returns
returns c =
    let end : c.loop-row.row ≡ length c.args.tableau.now.basis = omega (arith, c.loop-row-test.false, c.loop-row.auto.row-end, c.rows-row-end.ensures) in
    greatest_all c.args.tableau.now c.args.column (length c.args.tableau.now.basis) c.loop-row.greatest refl (subst (λ (m : ℕ). IsGreatestOf c.args.tableau.now c.args.column (λ i. (i < m) ⊎ (i ≡ length c.args.tableau.now.basis)) c.loop-row.greatest) end c.loop-row.invariant)
