-- The least s isn't positive, nor negative.
use Rattle.std.proofs.Common.{rules, arith, FitsSigned, to_z-of_z}
use Rattle.std.specs.Int.{w128}
use Rattle.std.proofs.lemmas.Int.{ints}
use Rattle.bz_lex.proofs.GoalWays.{slack_point}
use Rattle.bz_lex.proofs.RelaxedTables.{relaxed_right}
use Rattle.bz_lex.proofs.solving.solve.Goals as goal

pub feasible_start-requires-clause-zero : goal.feasible_start-requires-clause-zero
feasible_start-requires-clause-zero c =
    let fits : FitsSigned w128 c.objective_right.result = search rules in
    let tested = rw (to_z-of_z fits) at c.if-objective_right-lt0.false in
    let high = relaxed_right c.args.lp.now c.in_ok-relaxed.relaxed c.in_ok-relaxed.ensures.tableau c.in_ok-relaxed.ensures.point in
    omega (arith, ints, tested, high, c.objective_right.ensures.value)

pub finish-requires-clause-point : goal.finish-requires-clause-point
finish-requires-clause-point c = slack_point c.args.lp.now c.in_ok-tableau.tableau c.in_ok-tableau.ensures.tableau c.in_ok-tableau.ensures.basis c.if-has_slack_point.ensures
