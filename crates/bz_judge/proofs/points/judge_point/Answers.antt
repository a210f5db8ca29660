use Rattle.std.proofs.Common.{◌++◌, length}
use Rattle.std.specs.List.{enumerate_from}
use Rattle.bz_model.specs.Parting.{inequalities_of, integers_of}
use Rattle.bz_first.specs.Tests.{AllHold, IsFirstFault, each_of}
use Rattle.bz_first.proofs.TestLemmas.{all_joined, fault_behind, fault_in_front, judges_then}
use Rattle.bz_tree.specs.Ends.{box_of}
use Rattle.bz_judge.specs.declared.faults.CheckFault.{CheckFault}
use Rattle.bz_judge.specs.PointTests.{Tests, block_tests, in_master_tests, integer_tests}
use Rattle.bz_first.proofs.Chains.{stopped}
use Rattle.bz_judge.proofs.points.judge_point.Goals as goal

pub returns-in_err-judge_master_rows-clause-judges : goal.returns-in_err-judge_master_rows-clause-judges
returns-in_err-judge_master_rows-clause-judges c =
    let m = c.args.split.now.model in
    let part = c.args.split.now.part in
    let parts = c.args.parts.now in
    let rows : Tests = each_of (in_master_tests parts.master) (enumerate_from 0 (inequalities_of m part 0)) in
    let integers : Tests = each_of (integer_tests part (box_of c.args.root.now) parts.master (length (inequalities_of m part 0))) (enumerate_from 0 (integers_of m)) in
    let blocks : Tests = each_of (block_tests m part parts.master) (enumerate_from 1 parts.blocks) in
    let f : CheckFault = c.in_err-judge_master_rows.field-0.0 in
    let fault : IsFirstFault rows f = rw c.inequalities.ensures.value at c.in_err-judge_master_rows.ensures in
    stopped (rows ++ integers) blocks f c.from_residual.result c.from_residual.ensures.1 (fault_in_front rows integers f fault)

pub returns-in_err-judge_integers-clause-judges : goal.returns-in_err-judge_integers-clause-judges
returns-in_err-judge_integers-clause-judges c =
    let m = c.args.split.now.model in
    let part = c.args.split.now.part in
    let parts = c.args.parts.now in
    let rows : Tests = each_of (in_master_tests parts.master) (enumerate_from 0 (inequalities_of m part 0)) in
    let integers : Tests = each_of (integer_tests part (box_of c.args.root.now) parts.master (length (inequalities_of m part 0))) (enumerate_from 0 (integers_of m)) in
    let blocks : Tests = each_of (block_tests m part parts.master) (enumerate_from 1 parts.blocks) in
    let f : CheckFault = c.in_err-judge_integers.field-0.0 in
    let hold : AllHold rows = rw c.inequalities.ensures.value at c.in_ok-judge_master_rows.ensures in
    stopped (rows ++ integers) blocks f c.from_residual-in_err-judge_integers.result c.from_residual-in_err-judge_integers.ensures.1 (fault_behind rows integers f hold c.in_err-judge_integers.ensures)

pub returns-clause-judges : goal.returns-clause-judges
returns-clause-judges c =
    let m = c.args.split.now.model in
    let part = c.args.split.now.part in
    let parts = c.args.parts.now in
    let rows : Tests = each_of (in_master_tests parts.master) (enumerate_from 0 (inequalities_of m part 0)) in
    let integers : Tests = each_of (integer_tests part (box_of c.args.root.now) parts.master (length (inequalities_of m part 0))) (enumerate_from 0 (integers_of m)) in
    let blocks : Tests = each_of (block_tests m part parts.master) (enumerate_from 1 parts.blocks) in
    let hold : AllHold rows = rw c.inequalities.ensures.value at c.in_ok-judge_master_rows.ensures in
    judges_then (rows ++ integers) blocks c.judge_blocks.result (all_joined rows integers hold c.in_ok-judge_integers.ensures) (rw c.as_slice.ensures at c.judge_blocks.ensures)
