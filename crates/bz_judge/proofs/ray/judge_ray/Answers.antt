use Rattle.std.proofs.Common.{◌++◌, length}
use Rattle.std.specs.List.{enumerate_from}
use Rattle.bz_first.specs.Tests.{AllHold, IsFirstFault, each_of}
use Rattle.bz_first.proofs.TestLemmas.{all_joined, fault_behind, fault_in_front, judges_then}
use Rattle.bz_judge.specs.declared.faults.CheckFault.{CheckFault}
use Rattle.bz_judge.specs.PointTests.{Tests}
use Rattle.bz_judge.specs.RayTests.{ray_bound_tests, ray_cost_tests, ray_integer_tests, ray_row_tests}
use Rattle.bz_first.proofs.Chains.{stopped}
use Rattle.bz_judge.proofs.RayCosts.{rows_within}
use Rattle.bz_judge.proofs.ray.judge_ray.Goals as goal

pub judge_ray_rows-requires-clause-within : goal.judge_ray_rows-requires-clause-within
judge_ray_rows-requires-clause-within c =
    rw (c.as_slice.ensures, c.model-model.ensures.value) (rows_within c.args.split.now.model (length c.args.ray.now) c.model-model.ensures.split.indexes c.requires)

pub returns-in_err-judge_integers : goal.returns-in_err-judge_integers
returns-in_err-judge_integers c =
    let m = c.args.split.now.model in
    let ray = c.args.ray.now in
    let integers : Tests = each_of (ray_integer_tests ray) (enumerate_from 0 m.columns) in
    let rows : Tests = each_of (ray_row_tests ray) (enumerate_from 0 m.rows) in
    let bounds : Tests = each_of (ray_bound_tests ray) (enumerate_from 0 m.columns) in
    let cost : Tests = ray_cost_tests m ray in
    let f : CheckFault = c.in_err-judge_integers.field-0.0 in
    let fault : IsFirstFault integers f = rw (c.as_slice-columns.ensures, c.model-model.ensures.value) at c.in_err-judge_integers.ensures in
    stopped (integers ++ rows ++ bounds) cost f c.from_residual.result c.from_residual.ensures.1 (fault_in_front (integers ++ rows) bounds f (fault_in_front integers rows f fault))

pub returns-in_err-judge_ray_rows : goal.returns-in_err-judge_ray_rows
returns-in_err-judge_ray_rows c =
    let m = c.args.split.now.model in
    let ray = c.args.ray.now in
    let integers : Tests = each_of (ray_integer_tests ray) (enumerate_from 0 m.columns) in
    let rows : Tests = each_of (ray_row_tests ray) (enumerate_from 0 m.rows) in
    let bounds : Tests = each_of (ray_bound_tests ray) (enumerate_from 0 m.columns) in
    let cost : Tests = ray_cost_tests m ray in
    let f : CheckFault = c.in_err-judge_ray_rows.field-0.0 in
    let hold : AllHold integers = rw (c.as_slice-columns.ensures, c.model-model.ensures.value) at c.in_ok-judge_integers.ensures in
    let fault : IsFirstFault rows f = rw (c.as_slice.ensures, c.model-model.ensures.value) at c.in_err-judge_ray_rows.ensures in
    stopped (integers ++ rows ++ bounds) cost f c.from_residual-in_err-judge_ray_rows.result c.from_residual-in_err-judge_ray_rows.ensures.1 (fault_in_front (integers ++ rows) bounds f (fault_behind integers rows f hold fault))

pub returns-in_err-judge_bounds : goal.returns-in_err-judge_bounds
returns-in_err-judge_bounds c =
    let m = c.args.split.now.model in
    let ray = c.args.ray.now in
    let integers : Tests = each_of (ray_integer_tests ray) (enumerate_from 0 m.columns) in
    let rows : Tests = each_of (ray_row_tests ray) (enumerate_from 0 m.rows) in
    let bounds : Tests = each_of (ray_bound_tests ray) (enumerate_from 0 m.columns) in
    let cost : Tests = ray_cost_tests m ray in
    let f : CheckFault = c.in_err-judge_bounds.field-0.0 in
    let hold : AllHold integers = rw (c.as_slice-columns.ensures, c.model-model.ensures.value) at c.in_ok-judge_integers.ensures in
    let hold_rows : AllHold rows = rw (c.as_slice.ensures, c.model-model.ensures.value) at c.in_ok-judge_ray_rows.ensures in
    let fault : IsFirstFault bounds f = rw (c.as_slice-columns.ensures, c.model-model.ensures.value) at c.in_err-judge_bounds.ensures in
    stopped (integers ++ rows ++ bounds) cost f c.from_residual-in_err-judge_bounds.result c.from_residual-in_err-judge_bounds.ensures.1 (fault_behind (integers ++ rows) bounds f (all_joined integers rows hold hold_rows) fault)

pub returns : goal.returns
returns c =
    let m = c.args.split.now.model in
    let ray = c.args.ray.now in
    let integers : Tests = each_of (ray_integer_tests ray) (enumerate_from 0 m.columns) in
    let rows : Tests = each_of (ray_row_tests ray) (enumerate_from 0 m.rows) in
    let bounds : Tests = each_of (ray_bound_tests ray) (enumerate_from 0 m.columns) in
    let cost : Tests = ray_cost_tests m ray in
    let hold : AllHold integers = rw (c.as_slice-columns.ensures, c.model-model.ensures.value) at c.in_ok-judge_integers.ensures in
    let hold_rows : AllHold rows = rw (c.as_slice.ensures, c.model-model.ensures.value) at c.in_ok-judge_ray_rows.ensures in
    let hold_bounds : AllHold bounds = rw (c.as_slice-columns.ensures, c.model-model.ensures.value) at c.in_ok-judge_bounds.ensures in
    judges_then (integers ++ rows ++ bounds) cost c.judge_ray_cost.result (all_joined (integers ++ rows) bounds (all_joined integers rows hold hold_rows) hold_bounds) (rw c.model-model.ensures.value at c.judge_ray_cost.ensures)
