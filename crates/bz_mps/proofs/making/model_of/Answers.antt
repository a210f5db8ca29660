use Rattle.std.proofs.Common.{rules, ap, arith, length, FitsSigned, to_z-of_z}
use Rattle.std.specs.Int.{w128}
use Rattle.bz_mps.proofs.TestLists.{stops_on}
use Rattle.bz_mps.proofs.ModelLemmas.{all_pass, column_stops_all, few_columns, few_rows, objective_stops_all, row_stops_all, scale_positive}
use Rattle.bz_mps.proofs.making.model_of.Goals as goal

pub returns-in_err-columns-clause-tests : goal.returns-in_err-columns-clause-tests
returns-in_err-columns-clause-tests c =
    stops_on _ c.from_residual.result c.in_err-columns.field-0.0 c.from_residual.ensures.1 (column_stops_all c.args.facts.now c.in_err-columns.field-0.0 c.in_err-columns.ensures.tests)

pub returns-in_err-objective-clause-tests : goal.returns-in_err-objective-clause-tests
returns-in_err-objective-clause-tests c =
    stops_on _ c.from_residual-in_err-objective.result c.in_err-objective.field-0.0 c.from_residual-in_err-objective.ensures.1
    (objective_stops_all c.args.facts.now c.in_err-objective.field-0.0 c.in_ok-columns.ensures.tests c.in_err-objective.ensures.tests)

pub returns-in_err-rows-2-clause-tests : goal.returns-in_err-rows-2-clause-tests
returns-in_err-rows-2-clause-tests c =
    stops_on _ c.from_residual-in_err-rows-2.result c.in_err-rows-2.field-0.0 c.from_residual-in_err-rows-2.ensures.1
    (row_stops_all c.args.facts.now c.in_err-rows-2.field-0.0 c.in_ok-columns.ensures.tests c.in_ok-objective.ensures.tests c.in_err-rows-2.ensures.tests)

pub invariant_of-result : goal.invariant_of-result
invariant_of-result c =
    let constant : FitsSigned w128 c.in_ok-objective.objective.constant = search rules in
    let scale : FitsSigned w128 c.in_ok-objective.objective.scale = search rules in
    record {
      constant_narrow = rw (to_z-of_z constant) c.in_ok-objective.ensures.objective.constant_narrow;
      scale_positive = rw (to_z-of_z scale) (scale_positive c.in_ok-objective.objective.scale _ c.in_ok-objective.ensures.objective.scale_is);
      few_columns = omega (arith, ap length c.from_vec.ensures, few_columns c.args.facts.now c.in_ok-columns.columns.items c.requires c.in_ok-columns.ensures.columns);
      few_rows = omega (arith, ap length c.from_vec-2.ensures, few_rows c.args.facts.now c.in_ok-rows-2.rows.items c.requires c.in_ok-rows-2.ensures.rows);
    }

pub returns-clause-tests : goal.returns-clause-tests
returns-clause-tests c = all_pass c.args.facts.now c.in_ok-columns.ensures.tests c.in_ok-objective.ensures.tests c.in_ok-rows-2.ensures.tests
