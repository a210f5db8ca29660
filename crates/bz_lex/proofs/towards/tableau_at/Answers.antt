-- Each turn brings one row to the goal.
use Rattle.std.proofs.Common.{rules, ◌≡◌, ◌<◌, ℕ, false, length, sym, subst, ◌∙◌, arith}
use Rattle.bz_tableau.specs.declared.answers.LpStop.{LpStop}
use Rattle.bz_lex.specs.Refusals.{IsFirstStop}
use Rattle.bz_lex.proofs.GoalWays.{IsOnWay, way_first, way_next, way_count, way_refused, way_within, way_point}
use Rattle.bz_lex.proofs.Results.{if_err_and}
use Rattle.bz_lex.proofs.towards.tableau_at.Goals as goal

pub loop-row-init : goal.loop-row-init
loop-row-init c = (way_first false c.args.lp.now c.args.goal.now c.in_ok-tableau.tableau c.in_ok-tableau.ensures.tableau c.in_ok-tableau.ensures.basis, sym c.rows-rows.ensures)

pub returns-in_err-bring-clause-refused : goal.returns-in_err-bring-clause-refused
returns-in_err-bring-clause-refused c = if_err_and {P = λ stop. stop ≡ c.in_err-bring.field-0.0} {Q = λ stop. IsFirstStop c.args.lp.now stop} c.from_residual-in_err-bring.result c.from_residual-in_err-bring.ensures.1
    (λ stop same. subst (λ (x : LpStop). IsFirstStop c.args.lp.now x) (sym same)
    (way_refused c.loop-row.row false c.args.lp.now c.args.goal.now c.loop-row.tableau c.loop-row.invariant.0 (omega (arith, c.loop-row-test.true, c.loop-row.invariant.1)) c.requires.goal c.in_err-bring.field-0.0 c.in_err-bring.ensures.refused))

pub loop-row-preserved : goal.loop-row-preserved
loop-row-preserved c = let inside : c.loop-row.row < length c.loop-row.tableau.basis = omega (arith, c.loop-row-test.true, c.loop-row.invariant.1) in (
  way_next c.loop-row.row false c.args.lp.now c.args.goal.now c.loop-row.tableau c.loop-row.invariant.0 inside c.requires.goal c.bring.new.tableau c.in_ok-bring.ensures.brought,
  way_count c.loop-row.row false c.args.lp.now c.args.goal.now c.loop-row.tableau c.loop-row.invariant.0 inside c.requires.goal c.bring.new.tableau c.in_ok-bring.ensures.brought ∙ c.loop-row.invariant.1,
)

pub returns-clause-columns : goal.returns-clause-columns
returns-clause-columns c =
    let reached : c.loop-row.row ≡ length c.loop-row.tableau.basis = search rules in
    way_within false c.args.lp.now c.args.goal.now c.loop-row.tableau (subst (λ (n : ℕ). IsOnWay n false c.args.lp.now c.args.goal.now c.loop-row.tableau) reached c.loop-row.invariant.0) c.requires.goal

pub returns-clause-point : goal.returns-clause-point
returns-clause-point c =
    let reached : c.loop-row.row ≡ length c.loop-row.tableau.basis = search rules in
    way_point false c.args.lp.now c.args.goal.now c.loop-row.tableau (subst (λ (n : ℕ). IsOnWay n false c.args.lp.now c.args.goal.now c.loop-row.tableau) reached c.loop-row.invariant.0) c.requires.goal
