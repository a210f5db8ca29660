-- The tests of a call stand behind those of the calls before it, which hold.
use Rattle.std.proofs.lemmas.Result.{err_from_is_err_and}
use Rattle.bz_model.specs.Parting.{blocks_of, width_of}
use Rattle.bz_first.specs.Tests.{each_below}
use Rattle.bz_judge.specs.LeafTests.{leaf_bound_tests, leaf_eta_tests, leaf_form_tests, leaf_master_tests, leaf_rhs_tests}
use Rattle.bz_tree.specs.LeafSides.{sides_in}
use Rattle.bz_first.proofs.Chains.{fault_fourth, fault_second, fault_third, judged_last}
use Rattle.bz_judge.proofs.leaf_check.judge_leaf.Goals as goal

pub returns-in_err-judge_positions : goal.returns-in_err-judge_positions
returns-in_err-judge_positions c =
    let p = err_from_is_err_and c.from_residual-in_err-judge_positions.result c.from_residual-in_err-judge_positions.ensures.1 in
    rw (p.1, p.2) (fault_second
    (leaf_form_tests (sides_in c.args.sides.now) c.args.node c.args.leaf.now)
    (each_below (width_of c.args.split.now.part 0) (leaf_master_tests c.args.split.now.model c.args.split.now.part (sides_in c.args.sides.now) c.args.node c.args.leaf.now))
    (each_below (blocks_of c.args.split.now.part) (leaf_eta_tests (sides_in c.args.sides.now) c.args.node c.args.leaf.now))
    (leaf_rhs_tests (sides_in c.args.sides.now) c.args.node c.args.leaf.now)
    (leaf_bound_tests c.args.node c.args.leaf.now)
    _ c.in_ok-judge_form.ensures c.in_err-judge_positions.ensures)

pub returns-in_err-judge_etas : goal.returns-in_err-judge_etas
returns-in_err-judge_etas c =
    let p = err_from_is_err_and c.from_residual-in_err-judge_etas.result c.from_residual-in_err-judge_etas.ensures.1 in
    rw (p.1, p.2) (fault_third
    (leaf_form_tests (sides_in c.args.sides.now) c.args.node c.args.leaf.now)
    (each_below (width_of c.args.split.now.part 0) (leaf_master_tests c.args.split.now.model c.args.split.now.part (sides_in c.args.sides.now) c.args.node c.args.leaf.now))
    (each_below (blocks_of c.args.split.now.part) (leaf_eta_tests (sides_in c.args.sides.now) c.args.node c.args.leaf.now))
    (leaf_rhs_tests (sides_in c.args.sides.now) c.args.node c.args.leaf.now)
    (leaf_bound_tests c.args.node c.args.leaf.now)
    _ c.in_ok-judge_form.ensures c.in_ok-judge_positions.ensures c.in_err-judge_etas.ensures)

pub returns-in_err-judge_right_sides : goal.returns-in_err-judge_right_sides
returns-in_err-judge_right_sides c =
    let p = err_from_is_err_and c.from_residual-in_err-judge_right_sides.result c.from_residual-in_err-judge_right_sides.ensures.1 in
    rw (p.1, p.2) (fault_fourth
    (leaf_form_tests (sides_in c.args.sides.now) c.args.node c.args.leaf.now)
    (each_below (width_of c.args.split.now.part 0) (leaf_master_tests c.args.split.now.model c.args.split.now.part (sides_in c.args.sides.now) c.args.node c.args.leaf.now))
    (each_below (blocks_of c.args.split.now.part) (leaf_eta_tests (sides_in c.args.sides.now) c.args.node c.args.leaf.now))
    (leaf_rhs_tests (sides_in c.args.sides.now) c.args.node c.args.leaf.now)
    (leaf_bound_tests c.args.node c.args.leaf.now)
    _ c.in_ok-judge_form.ensures c.in_ok-judge_positions.ensures c.in_ok-judge_etas.ensures c.in_err-judge_right_sides.ensures)

pub returns : goal.returns
returns c = judged_last
    (leaf_form_tests (sides_in c.args.sides.now) c.args.node c.args.leaf.now)
    (each_below (width_of c.args.split.now.part 0) (leaf_master_tests c.args.split.now.model c.args.split.now.part (sides_in c.args.sides.now) c.args.node c.args.leaf.now))
    (each_below (blocks_of c.args.split.now.part) (leaf_eta_tests (sides_in c.args.sides.now) c.args.node c.args.leaf.now))
    (leaf_rhs_tests (sides_in c.args.sides.now) c.args.node c.args.leaf.now)
    (leaf_bound_tests c.args.node c.args.leaf.now)
    c.judge_bound.result c.in_ok-judge_form.ensures c.in_ok-judge_positions.ensures c.in_ok-judge_etas.ensures c.in_ok-judge_right_sides.ensures c.judge_bound.ensures
