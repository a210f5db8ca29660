use Rattle.bz_first.proofs.TestLemmas.{judges_then}
use Rattle.bz_judge.specs.PointTests.{block_tests}
use Rattle.bz_judge.specs.ValueTests.{cost_tests}
use Rattle.bz_sep.proofs.FillAnswers.{block_stopped}
use Rattle.bz_sep.proofs.fills.judge_fill.Goals as goal

pub returns-in_err-judge_block : goal.returns-in_err-judge_block
returns-in_err-judge_block c = block_stopped c.args.split.now.model c.args.split.now.part c.args.task.now.block c.args.task.now.point c.args.fill.now c.args.task.now.mode c.in_err-judge_block.field-0.0 c.from_residual.result c.from_residual.ensures.1 c.in_err-judge_block.ensures

pub returns-in-Cost : goal.returns-in-Cost
returns-in-Cost c =
    let blocks = block_tests c.args.split.now.model c.args.split.now.part c.args.task.now.point (c.args.task.now.block, c.args.fill.now) in
    let costs = cost_tests c.args.split.now.model c.args.split.now.part c.args.task.now.point (c.args.task.now.block, c.args.fill.now) in
    rw c.in-Cost.is (judges_then blocks costs c.judge_cost.result c.in_ok-judge_block.ensures c.judge_cost.ensures)
