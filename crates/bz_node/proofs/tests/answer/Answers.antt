use Rattle.std.proofs.Common.{arith}
use Rattle.bz_node.proofs.WorkedNodes.{box_fits, cuts_fit, ready, two_cuts}
use Rattle.bz_node.proofs.tests.answer.Goals as goal

pub solve_node-requires-clause-region : goal.solve_node-requires-clause-region
solve_node-requires-clause-region c = box_fits c.in_ok-split.split.model c.task-task.result.region c.in_ok-split.ensures.columns c.task-task.ensures.lower c.task-task.ensures.upper

pub solve_node-requires-clause-cuts : goal.solve_node-requires-clause-cuts
solve_node-requires-clause-cuts c = cuts_fit c.in_ok-split.split.part c.task-task.result.cuts c.in_ok-split.ensures.part c.task-task.ensures.cuts

pub solve_node-requires-clause-few : goal.solve_node-requires-clause-few
solve_node-requires-clause-few c = let two = two_cuts c.task-task.result.cuts c.task-task.ensures.cuts in omega (arith, two)

pub solve_node-requires-clause-ready : goal.solve_node-requires-clause-ready
solve_node-requires-clause-ready c = ready c.in_ok-split.split.part c.task-task.result.cuts c.task-task.result.mode c.in_ok-split.ensures.part c.task-task.ensures.cuts
