use Rattle.bz_node.proofs.LeastSteps.{empty_is, empty_numbers}
use Rattle.bz_node.proofs.solving.empty_answer.Goals as goal

pub fitting_leaf-requires-clause-numbers : goal.fitting_leaf-requires-clause-numbers
fitting_leaf-requires-clause-numbers c = empty_numbers c.args.program.now c.requires.program c.args.basis c.args.y.now c.requires.empty

pub returns-in-Ok-clause-answer : goal.returns-in-Ok-clause-answer
returns-in-Ok-clause-answer c = empty_is c.args.program.now c.requires.program c.args.basis c.args.y.now c.requires.empty c.in-Ok.leaf c.in-Ok.ensures.leaf
